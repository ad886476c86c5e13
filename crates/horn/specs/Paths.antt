-- Paths, and their dictionary order.
use Rattle.std.specs.Prelude.{◌≡◌, ℕ, ◌<◌, ◌⊎◌, List, [], ◌∷◌, length}

-- a list of clause numbers
abbrev pub Path : Type 0
Path = List ℕ

-- the first number that differs decides, and a path stands before its extensions
abbrev pub Before : Path → Path → Type 0
Before p [] = ⊥
Before [] (y ∷ q) = Unit {0}
Before (x ∷ p) (y ∷ q) = (x < y) ⊎ ((x ≡ y) × Before p q)

-- before, or the same
abbrev pub UpTo : Path → Path → Type 0
UpTo p q = (p ≡ q) ⊎ Before p q

-- p is in the list
abbrev pub In : Path → List Path → Type 0
In p [] = ⊥
In p (q ∷ w) = (p ≡ q) ⊎ In p w

-- each path stands before all that come later in the list
abbrev pub Ascending : List Path → Type 0
Ascending [] = Unit {0}
Ascending (p ∷ w) = ((q : Path) → In q w → Before p q) × Ascending w

-- w has exactly the paths with S, in dictionary order
pub record Lists (S : Path → Type 0) (w : List Path) : Type 0 where
  pub ascends : Ascending w
  pub sound : (q : Path) → In q w → S q
  pub full : (q : Path) → S q → In q w

-- n paths have S
abbrev pub Count : (Path → Type 0) → ℕ → Type 0
Count S n = (w : List Path) × Lists S w × (length w ≡ n)

-- n of the paths with S stand up to p
abbrev pub Rank : (Path → Type 0) → Path → ℕ → Type 0
Rank S p n = Count (λ q. S q × UpTo q p) n

-- p is the n-th of the paths with S
abbrev pub Nth : (Path → Type 0) → Path → ℕ → Type 0
Nth S p n = S p × Rank S p n
