-- Laws of pairs in a row.
use Rattle.std.proofs.Common.{◌≡◌, ℕ, zero, suc, ◌+◌, ◌<◌, ◌≤◌, List, [], ◌∷◌, ◌++◌, length, refl, ap, ◌∙◌, ap₂, append_assoc, arith}
use Rattle.std.specs.List.{AllByRecursion}
use Rattle.horn.specs.Terms.{cons}
use Rattle.heap.specs.Heaps.{Heap}
use Rattle.heap.specs.Solutions.{Valuation, span}
use Rattle.matching.specs.Unifies.{Agree, Inside, pair, rows}
use Rattle.matching.specs.declared.pairs.Pair.{Pair}

pub all_left : {X : Type 0} (P : X → Type 0) (xs ys : List X) → AllByRecursion P (xs ++ ys) → AllByRecursion P xs
all_left P [] ys h = tt
all_left P (x ∷ xs) ys h = (h.0, all_left P xs ys h.1)

pub all_right : {X : Type 0} (P : X → Type 0) (xs ys : List X) → AllByRecursion P (xs ++ ys) → AllByRecursion P ys
all_right P [] ys h = h
all_right P (x ∷ xs) ys h = all_right P xs ys h.1

pub rows_length : (i j n : ℕ) → length (rows i j n) ≡ n
rows_length i j zero = refl
rows_length i j (suc n) = ap suc (rows_length (suc i) (suc j) n)

rows_more : (i j n : ℕ) → rows i j n ++ pair (i + n) (j + n) ∷ [] ≡ rows i j (suc n)
rows_more i j zero =
    let a : i + 0 ≡ i = omega arith in
    let b : j + 0 ≡ j = omega arith in
    ap₂ (λ x y. pair x y ∷ []) a b
rows_more i j (suc n) =
    let a : i + suc n ≡ suc i + n = omega arith in
    let b : j + suc n ≡ suc j + n = omega arith in
    ap (λ x. pair i j ∷ x) (ap₂ (λ x y. rows (suc i) (suc j) n ++ pair x y ∷ []) a b ∙ rows_more (suc i) (suc j) n)

-- as a loop adds them
pub rows_push : (ps qs qs' : List Pair) (i j k : ℕ) → qs ≡ ps ++ rows i j k → qs' ≡ qs ++ pair (i + k) (j + k) ∷ [] → qs' ≡ ps ++ rows i j (k + 1)
rows_push ps qs qs' i j k e f =
    let next : suc k ≡ k + 1 = omega arith in
    f ∙ ap (λ x. x ++ pair (i + k) (j + k) ∷ []) e ∙ append_assoc ps (rows i j k) (pair (i + k) (j + k) ∷ []) ∙ ap (λ x. ps ++ x) (rows_more i j k ∙ ap (rows i j) next)

pub rows_inside : (H : Heap) (i j n : ℕ) → (0 < n → i + n ≤ length H) → (0 < n → j + n ≤ length H) → Inside H (rows i j n)
rows_inside H i j zero a b = tt
rows_inside H i j (suc n) a b =
    let a' : i + suc n ≤ length H = a (omega arith) in
    let b' : j + suc n ≤ length H = b (omega arith) in
    ((omega arith, omega arith), rows_inside H (suc i) (suc j) n (λ _. omega arith) (λ _. omega arith))

pub rows_agree : (ρ : Valuation) (i j n : ℕ) → span ρ i n ≡ span ρ j n → Agree ρ (rows i j n)
rows_agree ρ i j zero e = tt
rows_agree ρ i j (suc n) e =
    let head : ρ i ≡ ρ j = cc in
    let tail : span ρ (suc i) n ≡ span ρ (suc j) n = cc in
    (head, rows_agree ρ (suc i) (suc j) n tail)

pub agree_rows : (ρ : Valuation) (i j n : ℕ) → Agree ρ (rows i j n) → span ρ i n ≡ span ρ j n
agree_rows ρ i j zero h = refl
agree_rows ρ i j (suc n) h = ap₂ cons h.0 (agree_rows ρ (suc i) (suc j) n h.1)
