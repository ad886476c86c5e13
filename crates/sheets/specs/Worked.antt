-- Worked cases, from lines to lines.
use Rattle.std.specs.Prelude.{ℕ, [], ◌∷◌, codes}
use Rattle.sheets.specs.Sheets.{Printed, Refused}

-- fuel enough for each case
abbrev pub ample : ℕ
ample = 10000

-- fuel that a loop uses up
abbrev pub scant : ℕ
scant = 256

-- what the cases print, and what refuses them
pub record Worked : Type 0 where
  pub ligatures :
      Printed (codes "C,0,half/2,ka,ka.half" ∷ codes "C,0,half/2,ta,ta.half" ∷ codes "C,1,pair/3,X,Y,lig/2,H,Y,half/2,X,H" ∷ [])
      (codes "Q,1,pair/3,G,ya,L") ample
      (codes "A,2,G,ka,L,lig/2,ka.half,ya" ∷ codes "A,2,G,ta,L,lig/2,ta.half,ya" ∷ codes "N,2,3" ∷ [])
  pub infinite : Printed (codes "C,0,p/2,X,f/1,X" ∷ []) (codes "Q,1,p/2,Z,Z") ample (codes "N,0,0" ∷ [])
  pub repeated : Printed (codes "C,0,k/1,a" ∷ codes "C,0,k/1,a" ∷ []) (codes "Q,1,k/1,X") ample (codes "A,1,X,a" ∷ codes "A,1,X,a" ∷ codes "N,2,2" ∷ [])
  pub unbound : Printed (codes "C,0,any/1,X" ∷ []) (codes "Q,1,any/1,f/2,B,B") ample (codes "A,1,B,_1" ∷ codes "N,1,1" ∷ [])
  pub endless : Printed (codes "C,1,n/1,X,n/1,X" ∷ []) (codes "Q,1,n/1,a") ample (codes "H,22,0,256" ∷ [])
  pub short : Printed (codes "C,1,n/1,X,n/1,X" ∷ []) (codes "Q,1,n/1,a") scant (codes "H,21,0,256" ∷ [])
  pub variable_head : Refused (codes "C,0,X") (codes "R,6,2,3,0")
  pub argument_missing : Refused (codes "C,0,p/2,a") (codes "R,4,2,5,0")
  pub field_over : Refused (codes "C,0,p/1,a,") (codes "R,5,2,5,0")
  pub arity_over : Refused (codes "C,0,p/9,a") (codes "R,2,1,3,0")
