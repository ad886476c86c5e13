-- Laws of heaps that grow, or lose their last cells.
use Rattle.std.proofs.Common.{◌≡◌, ℕ, ◌+◌, ◌<◌, ◌≤◌, [], ◌∷◌, ◌++◌, length, sym, refl, ap, ◌∙◌, subst, arith}
use mathlib.Core.WellFounded.{Acc}
use native.Mathlib.Decide.{dec_lt, ℕ_discrete}
use Rattle.std.proofs.lemmas.List.{length_push, get_or_append_left, get_or_push, get_or_past}
use Rattle.horn.specs.Terms.{Term, node}
use Rattle.heap.specs.Heaps.{Heap, cell, Names, Edge, Ends, Sound, Closed, total}
use Rattle.heap.specs.Solutions.{Naming, Valuation, Says, Sol, Tells}
use Rattle.heap.specs.declared.cell.Cell.{Cell}
use Rattle.heap.specs.declared.cell.Cell.TheVariants.{Unbound, Ref, Node}
use Rattle.heap.proofs.SpanLaws.{span_ext}

pub sound_none : Sound []
sound_none i = Acc.intro i (λ j e. absurd e)

pub closed_none : Closed []
closed_none i j e = absurd e

pub total_push : (w : Cell → ℕ) (H : Heap) (c : Cell) → total w (H ++ c ∷ []) ≡ total w H + w c
total_push w [] c = omega arith
total_push w (d ∷ H) c = omega (arith, total_push w H c)

-- one more cell, that names cells of the heap alone
module _ (H : Heap) (c : Cell) (closed : Closed H) (names : (j : ℕ) → Names c j → j < length H) where
  old_cell : (k : ℕ) → k < length H → cell (H ++ c ∷ []) k ≡ cell H k
  old_cell k h = get_or_append_left H (c ∷ []) Unbound k h

  new_cell : cell (H ++ c ∷ []) (length H) ≡ c
  new_cell = get_or_push H c Unbound (length H) refl

  past_cell : (k : ℕ) → length H < k → cell (H ++ c ∷ []) k ≡ Unbound
  past_cell k h = get_or_past (H ++ c ∷ []) k Unbound (omega (arith, length_push H c))

  edges_in : (k j : ℕ) → Edge (H ++ c ∷ []) j k → j < length H
  edges_in k j e =
      elim (dec_lt k (length H)) [
        | yes lt ↦ closed k j (subst (λ x. Names x j) (old_cell k lt) e)
        | no ge ↦ elim (ℕ_discrete k (length H)) [
          | yes q ↦ names j (subst (λ x. Names x j) new_cell (subst (λ x. Edge (H ++ c ∷ []) j x) q e))
          | no ne ↦ absurd (subst (λ x. Names x j) (past_cell k (omega arith)) e)
        ]
      ]

  pub closed_push : Closed (H ++ c ∷ [])
  closed_push k j e = omega (arith, edges_in k j e, length_push H c)

  old_ends : {k : ℕ} → Ends H k → k < length H → Ends (H ++ c ∷ []) k
  old_ends (Acc.intro k h) lt = Acc.intro k (λ j e. old_ends (h j (subst (λ x. Names x j) (old_cell k lt) e)) (edges_in k j e))

  pub sound_push : Sound H → Sound (H ++ c ∷ [])
  sound_push s k = Acc.intro k (λ j e. old_ends (s j) (edges_in k j e))

module _ (names : Naming) where
  -- what a cell says rests on its own term and on those of the cells that it names
  says_agree : (c : Cell) (i : ℕ) (ρ τ : Valuation) → ρ i ≡ τ i → ((j : ℕ) → Names c j → ρ j ≡ τ j) → Says names c i ρ → Says names c i τ
  says_agree Unbound i ρ τ e f s = tt
  says_agree (Ref k) i ρ τ e f s = sym e ∙ s ∙ f k refl
  says_agree (Node g n b) i ρ τ e f s = sym e ∙ s ∙ ap (node (names g)) (span_ext ρ τ b b n (λ k h. f (b + k) (omega arith, omega arith)))

  -- valuations that agree on the heap's cells
  pub sol_agree : (H : Heap) (ρ τ : Valuation) → Closed H → ((k : ℕ) → k < length H → ρ k ≡ τ k) → Sol names H ρ → Sol names H τ
  sol_agree H ρ τ closed same s i =
      elim (dec_lt i (length H)) [
        | yes lt ↦ says_agree (cell H i) i ρ τ (same i lt) (λ j e. same j (closed i j e)) (s i)
        | no ge ↦ subst (λ c. Says names c i τ) (sym (get_or_past H i Unbound (omega arith))) tt
      ]

  -- one more cell: what it says is said besides
  module _ (H : Heap) (c : Cell) (ρ : Valuation) where
    pub sol_push : Sol names H ρ → Says names c (length H) ρ → Sol names (H ++ c ∷ []) ρ
    sol_push s n k =
        elim (dec_lt k (length H)) [
          | yes lt ↦ subst (λ x. Says names x k ρ) (sym (get_or_append_left H (c ∷ []) Unbound k lt)) (s k)
          | no ge ↦ elim (ℕ_discrete k (length H)) [
            | yes q ↦ subst (λ x. Says names (cell (H ++ c ∷ []) x) x ρ) (sym q) (subst (λ x. Says names x (length H) ρ) (sym (get_or_push H c Unbound (length H) refl)) n)
            | no ne ↦ subst (λ x. Says names x k ρ) (sym (get_or_past (H ++ c ∷ []) k Unbound (omega (arith, length_push H c)))) tt
          ]
        ]

    pub sol_pop : Sol names (H ++ c ∷ []) ρ → Sol names H ρ × Says names c (length H) ρ
    sol_pop s = (
      λ k. elim (dec_lt k (length H)) [
        | yes lt ↦ subst (λ x. Says names x k ρ) (get_or_append_left H (c ∷ []) Unbound k lt) (s k)
        | no ge ↦ subst (λ x. Says names x k ρ) (sym (get_or_past H k Unbound (omega arith))) tt
      ],
      subst (λ x. Says names x (length H) ρ) (get_or_push H c Unbound (length H) refl) (s (length H)),
    )

-- a valuation changed from n on
abbrev pub from : Valuation → ℕ → Valuation → Valuation
from ρ n τ k = elim (dec_lt k n) [ yes lt ↦ ρ k | no ge ↦ τ k ]

pub from_below : (ρ : Valuation) (n : ℕ) (τ : Valuation) (k : ℕ) → k < n → from ρ n τ k ≡ ρ k
from_below ρ n τ k h = go (dec_lt k n)
  where
    go : (d : Dec (k < n)) → elim d as (λ _. Term ℕ) [ yes lt ↦ ρ k | no ge ↦ τ k ] ≡ ρ k
    go (yes lt) = refl
    go (no ge) = absurd (ge h)

pub from_above : (ρ : Valuation) (n : ℕ) (τ : Valuation) (k : ℕ) → n ≤ k → from ρ n τ k ≡ τ k
from_above ρ n τ k h = go (dec_lt k n)
  where
    go : (d : Dec (k < n)) → elim d as (λ _. Term ℕ) [ yes lt ↦ ρ k | no ge ↦ τ k ] ≡ τ k
    go (yes lt) = absurd (omega arith)
    go (no ge) = refl

-- a new unbound cell may have any term
pub sol_fresh : (names : Naming) (H : Heap) (ρ : Valuation) (t : Term ℕ) → Closed H → Sol names H ρ
    → Sol names (H ++ Unbound ∷ []) (from ρ (length H) (λ _. t)) × (from ρ (length H) (λ _. t) (length H) ≡ t)
sol_fresh names H ρ t closed s =
    (sol_push names H Unbound _ (sol_agree names H ρ _ closed (λ k h. sym (from_below ρ (length H) (λ _. t) k h)) s) tt, from_above ρ (length H) (λ _. t) (length H) (omega arith))

-- a naming that gives no two symbols one name and one arity tells the symbols of every heap apart that keeps their arities
pub tells_table : (names : Naming) (arities : ℕ → ℕ) (H : Heap) → ((f g : ℕ) → names f ≡ names g → arities f ≡ arities g → f ≡ g)
    → ((i f n p : ℕ) → cell H i ≡ Node f n p → arities f ≡ n) → Tells names H
tells_table names arities H one kept i j f g n p q at_i at_j same = one f g same (kept i f n p at_i ∙ sym (kept j g n q at_j))
