-- How far references lead in a sound heap: no further than there are references.
use Rattle.std.proofs.Common.{◌≡◌, ℕ, zero, suc, ◌<◌, ◌≤◌, [], ◌∷◌, length, set, refl, ap, subst, arith}
use mathlib.Core.WellFounded.Acc
use mathlib.Core.WellFounded.{Acc}
use Rattle.heap.specs.Heaps.{Heap, cell, Edge, Ends, Reach, here, step, total, refs, past, walk}
use Rattle.heap.specs.declared.cell.Cell.{Cell}
use Rattle.heap.specs.declared.cell.Cell.TheVariants.{Unbound, Ref, Node}
use Rattle.heap.proofs.HeapLaws.{reach_trans, cell_other, ends_away, edge_ref, total_set}

-- a way round
turned : {H : Heap} {i j : ℕ} → Edge H j i → Reach H j i → (k : ℕ) × (Edge H k j) × (Reach H k j)
turned e here = (_, e, here)
turned e (step d p) = (_, d, reach_trans p (step e here))

module _ (H : Heap) where
  pub no_round : {i : ℕ} → Ends H i → (j : ℕ) → Edge H j i → Reach H j i → ⊥
  no_round (Acc.intro i h) j e p =
      let t = turned e p in
      no_round (h j e) t.0 t.1 t.2

-- the cell of a reference is a cell of the heap
pub bound_within : (H : Heap) (i : ℕ) (k : ℕ) → cell H i ≡ Ref k → i < length H
bound_within [] i k e = let z : ◌≡◌ {A = ℕ} 0 1 = cc in absurd (omega arith)
bound_within (d ∷ H) zero k e = omega arith
bound_within (d ∷ H) (suc i) k e = omega (arith, bound_within H i k e)

-- the walk comes to its end in n steps
abbrev After : Cell → (ℕ → Type 0) → Type 0
After Unbound P = Unit {0}
After (Ref k) P = P k
After (Node f n b) P = Unit {0}

abbrev Short : ℕ → Heap → ℕ → Type 0
Short zero H i = After (cell H i) (λ k. ⊥)
Short (suc n) H i = After (cell H i) (λ k. Short n H k)

short_away : (n : ℕ) (H : Heap) (i j : ℕ) → (Reach H j i → ⊥) → Short n (set H i Unbound) j → Short n H j
short_away zero H i j away s = subst (λ c. After c (λ k. ⊥)) (cell_other H i j Unbound (λ q. away (subst (λ x. Reach H j x) q here))) s
short_away (suc n) H i j away s = go (cell H j) refl (subst (λ c. After c (λ k. Short n (set H i Unbound) k)) (cell_other H i j Unbound (λ q. away (subst (λ x. Reach H j x) q here))) s) (λ k e. short_away n H i k (λ r. away (step (edge_ref H j k e) r)))
  where
    go : (c : Cell) → cell H j ≡ c → After c (λ k. Short n (set H i Unbound) k) → ((k : ℕ) → cell H j ≡ Ref k → Short n (set H i Unbound) k → Short n H k) → After c (λ k. Short n H k)
    go Unbound e a f = tt
    go (Ref k) e a f = f k e a
    go (Node g m b) e a f = tt

pub short : (n : ℕ) (H : Heap) (i : ℕ) → Ends H i → total refs H ≤ n → Short n H i
short zero H i a few = go (cell H i) refl
  where
    go : (c : Cell) → cell H i ≡ c → After c (λ k. ⊥)
    go Unbound e = tt
    go (Ref k) e = omega (arith, total_set refs H i Unbound (bound_within H i k e), ap refs e)
    go (Node g m b) e = tt
short (suc n) H i a few = go (cell H i) refl (λ k e. short n (set H i Unbound) k)
  where
    go : (c : Cell) → cell H i ≡ c → ((k : ℕ) → cell H i ≡ Ref k → Ends (set H i Unbound) k → total refs (set H i Unbound) ≤ n → Short n (set H i Unbound) k) → After c (λ k. Short n H k)
    go Unbound e f = tt
    go (Ref k) e f =
        let away : Reach H k i → ⊥ = no_round H a k (edge_ref H i k e) in
        short_away n H i k away
        (f k e (ends_away H i Unbound (Acc.inv a (edge_ref H i k e)) away)
        (omega (arith, total_set refs H i Unbound (bound_within H i k e), ap refs e)))
    go (Node g m b) e f = tt

walk_settled : (n : ℕ) (H : Heap) (i : ℕ) → Short n H i → walk (suc n) H i ≡ walk n H i
walk_settled zero H i s = go (cell H i) s
  where
    go : (c : Cell) → After c (λ k. ⊥) → past c (λ k. 0) ≡ 0
    go Unbound a = refl
    go (Ref k) a = absurd a
    go (Node g m b) a = refl
walk_settled (suc n) H i s = go (cell H i) s (walk_settled n H)
  where
    go : (c : Cell) → After c (λ k. Short n H k) → ((k : ℕ) → Short n H k → walk (suc n) H k ≡ walk n H k)
        → past c (λ k. walk (suc n) H k) ≡ past c (λ k. walk n H k)
    go Unbound a f = refl
    go (Ref k) a f = ap suc (f k a)
    go (Node g m b) a f = refl

-- along a reference the walk gets shorter
pub walk_less : (H : Heap) (i k : ℕ) → Ends H i → cell H i ≡ Ref k → walk (total refs H) H k < walk (total refs H) H i
walk_less H i k a e = go (total refs H) refl
  where
    go : (n : ℕ) → total refs H ≡ n → walk n H k < walk n H i
    go zero q = absurd (omega (arith, total_set refs H i Unbound (bound_within H i k e), ap refs e))
    go (suc n) q =
        let s : Short n H k = subst (λ c. After c (λ k. Short n H k)) e (short (suc n) H i a (omega arith)) in
        omega (arith, walk_settled n H k s, ap (λ c. past c (λ k. walk n H k)) e)
