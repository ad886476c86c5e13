-- Laws of heaps: ways down, and what a write keeps.
use Rattle.std.proofs.Common.{◌≡◌, ℕ, zero, suc, ◌+◌, ◌<◌, ◌≤◌, ◌≢◌, ◌⊎◌, [], ◌∷◌, length, set, sym, refl, subst, inl, inr, arith, length-set, get_or-set_other, get_or-set_same}
use mathlib.Core.WellFounded.{Acc}
use native.Mathlib.Decide.{ℕ_discrete}
use Rattle.heap.specs.Heaps.{Heap, cell, Names, Edge, Ends, Sound, Closed, Reach, here, step, Below, Rooted, total}
use Rattle.heap.specs.declared.cell.Cell.{Cell}
use Rattle.heap.specs.declared.cell.Cell.TheVariants.{Unbound, Ref, Node}

pub reach_trans : {H : Heap} {i j k : ℕ} → Reach H i j → Reach H j k → Reach H i k
reach_trans here q = q
reach_trans (step e p) q = step e (reach_trans p q)

-- a write at i leaves what another cell says
pub cell_other : (H : Heap) (i k : ℕ) (c : Cell) → k ≢ i → cell (set H i c) k ≡ cell H k
cell_other H i k c ne = get_or-set_other H i k c Unbound ne

pub cell_same : (H : Heap) (i : ℕ) (c : Cell) → i < length H → cell (set H i c) i ≡ c
cell_same H i c h = get_or-set_same H i c Unbound h

pub edge_ref : (H : Heap) (i k : ℕ) → cell H i ≡ Ref k → Edge H k i
edge_ref H i k e = subst (λ c. Names c k) (sym e) refl

module _ (H : Heap) (i : ℕ) (c : Cell) where
  -- where i is out of reach, nothing changes
  pub ends_away : {k : ℕ} → Ends H k → (Reach H k i → ⊥) → Ends (set H i c) k
  ends_away (Acc.intro k h) away =
      Acc.intro k λ l e.
      let e' : Edge H l k = subst (λ x. Names x l) (cell_other H i k c (λ q. away (subst (λ x. Reach H k x) q here))) e in
      ends_away (h l e') (λ r. away (step e' r))

  -- once i ends in the new heap, all does
  pub ends_over : {k : ℕ} → Ends H k → Ends (set H i c) i → Ends (set H i c) k
  ends_over (Acc.intro k h) new =
      elim (ℕ_discrete k i) [
        | yes q ↦ subst (λ x. Ends (set H i c) x) (sym q) new
        | no ne ↦ Acc.intro k (λ l e. ends_over (h l (subst (λ x. Names x l) (cell_other H i k c ne) e)) new)
      ]

pub sound_ref : (H : Heap) (i j : ℕ) → i < length H → Sound H → (Reach H j i → ⊥) → Sound (set H i (Ref j))
sound_ref H i j lt s away k =
    ends_over H i (Ref j) (s k)
    (Acc.intro i λ l e.
    let q : l ≡ j = subst (λ x. Names x l) (cell_same H i (Ref j) lt) e in
    subst (λ x. Ends (set H i (Ref j)) x) (sym q) (ends_away H i (Ref j) (s j) away))

pub closed_ref : (H : Heap) (i j : ℕ) → i < length H → j < length H → Closed H → Closed (set H i (Ref j))
closed_ref H i j li lj cl k l e =
    rw length-set (elim (ℕ_discrete k i) [
      | yes q ↦ (let e' : l ≡ j = subst (λ x. Names x l) (cell_same H i (Ref j) li) (subst (λ x. Edge (set H i (Ref j)) l x) q e) in omega arith)
      | no ne ↦ cl k l (subst (λ x. Names x l) (cell_other H i k (Ref j) ne) e)
    ])

-- a write changes a sum by what the two cells give
pub total_set : (w : Cell → ℕ) (H : Heap) (i : ℕ) (c : Cell) → i < length H → total w (set H i c) + w (cell H i) ≡ total w H + w c
total_set w [] i c h = absurd (omega arith)
total_set w (d ∷ H) zero c h = omega arith
total_set w (d ∷ H) (suc i) c h = omega (arith, total_set w H i c (omega arith))

-- what a cell names, as a range
module _ (H : Heap) (cl : Closed H) (i : ℕ) where
  pub ref_within : (k : ℕ) → cell H i ≡ Ref k → k < length H
  ref_within k e = cl i k (edge_ref H i k e)

  pub below_ref : (k : ℕ) → cell H i ≡ Ref k → Below H i k (k + 1)
  below_ref k e = record {
    order = omega arith;
    within = λ _. omega (arith, ref_within k e);
    into = λ j d. let q : j ≡ k = subst (λ c. Names c j) e d in omega arith;
    back = λ j lo hi. let q : j ≡ k = omega arith in subst (λ c. Names c j) (sym e) q;
  }

  -- a structure has its arguments in the heap
  pub node_within : (f n b : ℕ) → cell H i ≡ Node f n b → 0 < n → b + n ≤ length H
  node_within f zero b e pos = absurd (omega arith)
  node_within f (suc n) b e pos =
      let h : b + n < length H = cl i (b + n) (subst (λ c. Names c (b + n)) (sym e) (omega arith, omega arith)) in omega arith

  pub node_fits : (f n b : ℕ) → cell H i ≡ Node f n b → (n ≡ 0) ⊎ (b + n ≤ length H)
  node_fits f zero b e = inl refl
  node_fits f (suc n) b e = inr (node_within f (suc n) b e (omega arith))

  pub below_node : (f n b : ℕ) → cell H i ≡ Node f n b → Below H i b (b + n)
  below_node f n b e = record {
    order = omega arith;
    within = λ h. node_within f n b e (omega arith);
    into = λ j d. subst (λ c. Names c j) e d;
    back = λ j lo hi. subst (λ c. Names c j) (sym e) (lo, hi);
  }

-- from an unbound cell, and from a constant, no other is reached
pub reach_free : (H : Heap) (i j : ℕ) → cell H j ≡ Unbound → i ≢ j → Reach H j i → ⊥
reach_free H i j free ne here = ne refl
reach_free H i j free ne (step {j = b} d p) = subst (λ c. Names c b) free d

pub reach_constant : (H : Heap) (i j f q : ℕ) → cell H j ≡ Node f 0 q → i ≢ j → Reach H j i → ⊥
reach_constant H i j f q at_j ne here = ne refl
reach_constant H i j f q at_j ne (step {j = b} d p) =
    let h : (q ≤ b) × (b < q + 0) = subst (λ c. Names c b) at_j d in omega (arith, h.0, h.1)

-- a root that is no structure is unbound
pub root_free : (c : Cell) → Rooted c → ((f n b : ℕ) → c ≡ Node f n b → ⊥) → c ≡ Unbound
root_free Unbound r no_Node = refl
root_free (Ref k) r no_Node = absurd r
root_free (Node f n b) r no_Node = absurd (no_Node f n b refl)
