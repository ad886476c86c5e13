-- Laws of stamps: those below a new one mark nothing.
use Rattle.std.proofs.Common.{◌≡◌, ℕ, zero, suc, ◌<◌, ◌≤◌, true, false, eqb, ◌≢◌, List, [], ◌∷◌, length, get_or, set, replicate, refl, ap, ◌∙◌, arith, get_or-set_other, get_or-set_same}
use native.Mathlib.Decide.{ℕ_discrete}
use Rattle.std.proofs.lemmas.List.{map-set}
use Rattle.std.proofs.lemmas.Bool.{eq-eqb, ne_eqb}
use Rattle.heap.specs.Marks.{marked}

pub marked_none : (stamps : List ℕ) (last n : ℕ) → length stamps ≡ n → ((i : ℕ) → get_or stamps i 0 < last) → marked stamps last ≡ replicate n false
marked_none [] last zero e old = refl
marked_none [] last (suc n) e old = absurd (omega arith)
marked_none (s ∷ stamps) last zero e old = absurd (omega arith)
marked_none (s ∷ stamps) last (suc n) e old =
    let other : s ≢ last = let h : s < last = old 0 in omega arith in
    let rest = marked_none stamps last n (omega arith) (λ i. old (suc i)) in
    let here = ne_eqb s last other in
    cc

pub marked_put : (stamps : List ℕ) (last i : ℕ) → marked (set stamps i last) last ≡ set (marked stamps last) i true
marked_put stamps last i = map-set (λ s. eqb s last) stamps i last ∙ ap (set (marked stamps last) i) (eq-eqb last last refl)

pub stamps_put : (stamps : List ℕ) (last i : ℕ) → i < length stamps → ((k : ℕ) → get_or stamps k 0 ≤ last) → (k : ℕ) → get_or (set stamps i last) k 0 ≤ last
stamps_put stamps last i h old k =
    elim (ℕ_discrete k i) [
      | yes e ↦ omega (arith, ap (λ x. get_or (set stamps i last) x 0) e, get_or-set_same stamps i last 0 h)
      | no ne ↦ omega (arith, get_or-set_other stamps i k last 0 ne, old k)
    ]

pub blank_stamps : (n i : ℕ) → ◌≡◌ {A = ℕ} (get_or (replicate n 0) i 0) 0
blank_stamps zero i = refl
blank_stamps (suc n) zero = refl
blank_stamps (suc n) (suc i) = blank_stamps n i
