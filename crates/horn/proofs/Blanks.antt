-- Terms with their blanks told apart are written as they were.
use Rattle.std.proofs.Common.{◌≡◌, ℕ, ◌+◌, Bool, true, false, cond, [], ◌∷◌, sym, refl, ap, ap₂, arith}
use Rattle.std.proofs.lemmas.Bool.{eqb-true}
use Rattle.horn.specs.Terms.{Name, Term, var, node, nil, cons, eval}
use Rattle.horn.specs.Clauses.{named, blank, Written, is_blank, called, written, meant, blanks, apart, aparts}

blank_is : (v : Name) → is_blank v ≡ true → 95 ∷ [] ≡ v
blank_is [] e = let z : ◌≡◌ {A = ℕ} 0 1 = cc in absurd (omega arith)
blank_is (b ∷ []) e = ap (λ x. x ∷ []) (sym (eqb-true b 95 e))
blank_is (b ∷ c ∷ bs) e = let z : ◌≡◌ {A = ℕ} 0 1 = cc in absurd (omega arith)

called_meant : (n : ℕ) (v : Name) → called (meant n v) ≡ v
called_meant n v = go (is_blank v) refl
  where
    go : (t : Bool) → is_blank v ≡ t → called (cond t (blank n) (named v)) ≡ v
    go true e = blank_is v e
    go false e = refl

mutual
  written_apart : (n : ℕ) (t : Term Name) → eval (apart n t) (λ v. var (called v)) ≡ t
  written_apart n (var v) = ap var (called_meant n v)
  written_apart n (node f ts) = ap (node f) (written_aparts n ts)

  pub written_aparts : (n : ℕ) (ts : Written) → written (aparts n ts) ≡ ts
  written_aparts n nil = refl
  written_aparts n (cons t ts) = ap₂ cons (written_apart n t) (written_aparts (n + blanks t) ts)
