-- A list of different numbers below n is no longer than n.
use Rattle.std.proofs.Common.{◌≡◌, ℕ, zero, suc, ◌<◌, ◌≤◌, Bool, true, false, cond, eqb, List, [], ◌∷◌, length, refl, subst, arith}
use Rattle.std.specs.List.{AllByRecursion}
use Rattle.std.proofs.lemmas.Bool.{eqb-true, eqb-false}

-- x is none of the numbers
abbrev pub Free : ℕ → List ℕ → Type 0
Free x xs = AllByRecursion (λ y. y ≡ x → ⊥) xs

abbrev pub Different : List ℕ → Type 0
Different [] = Unit {0}
Different (x ∷ xs) = Free x xs × Different xs

abbrev remove : ℕ → List ℕ → List ℕ
remove m [] = []
remove m (x ∷ xs) = cond (eqb x m) xs (x ∷ remove m xs)

length_remove : (m : ℕ) (xs : List ℕ) → length xs ≤ suc (length (remove m xs))
length_remove m [] = omega arith
length_remove m (x ∷ xs) = elim (eqb x m) as (λ t. suc (length xs) ≤ suc (length (cond t xs (x ∷ remove m xs)))) [ true ↦ omega arith | false ↦ omega (arith, length_remove m xs) ]

all_remove : (P : ℕ → Type 0) (m : ℕ) (xs : List ℕ) → AllByRecursion P xs → AllByRecursion P (remove m xs)
all_remove P m [] h = tt
all_remove P m (x ∷ xs) h = elim (eqb x m) as (λ t. AllByRecursion P (cond t xs (x ∷ remove m xs))) [ true ↦ h.1 | false ↦ (h.0, all_remove P m xs h.1) ]

different_remove : (m : ℕ) (xs : List ℕ) → Different xs → Different (remove m xs)
different_remove m [] h = tt
different_remove m (x ∷ xs) h = elim (eqb x m) as (λ t. Different (cond t xs (x ∷ remove m xs))) [ true ↦ h.1 | false ↦ (all_remove (λ y. y ≡ x → ⊥) m xs h.0, different_remove m xs h.1) ]

gone : (m : ℕ) (xs : List ℕ) → Different xs → Free m (remove m xs)
gone m [] h = tt
gone m (x ∷ xs) h = go (gone m xs h.1) (eqb x m) refl
  where
    go : Free m (remove m xs) → (t : Bool) → eqb x m ≡ t → Free m (cond t xs (x ∷ remove m xs))
    go ih true e = subst (λ c. Free c xs) (eqb-true x m e) h.0
    go ih false e = (eqb-false x m e, ih)

tighter : (m : ℕ) (xs : List ℕ) → AllByRecursion (λ x. x < suc m) xs → Free m xs → AllByRecursion (λ x. x < m) xs
tighter m [] h f = tt
tighter m (x ∷ xs) h f = let ne = f.0 in let l = h.0 in (omega arith, tighter m xs h.1 f.1)

pub pigeons : (n : ℕ) (xs : List ℕ) → Different xs → AllByRecursion (λ x. x < n) xs → length xs ≤ n
pigeons n [] d u = omega arith
pigeons zero (x ∷ xs) d u = absurd (let l = u.0 in omega arith)
pigeons (suc m) (x ∷ xs) d u =
    omega (
      arith,
      length_remove m (x ∷ xs),
      pigeons m (remove m (x ∷ xs)) (different_remove m (x ∷ xs) d)
          (tighter m (remove m (x ∷ xs)) (all_remove (λ y. y < suc m) m (x ∷ xs) u) (gone m (x ∷ xs) d)),
    )
