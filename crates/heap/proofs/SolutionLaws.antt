-- Laws of solutions: what a write asks of them, and when there is none.
use Rattle.std.proofs.Common.{◌≡◌, ℕ, ◌<◌, ◌≤◌, ◌≢◌, ◌⊎◌, length, set, sym, refl, ap, ◌∙◌, subst, ⊎_elim, arith}
use native.Mathlib.Decide.{ℕ_discrete}
use Rattle.horn.specs.Terms.{node, nil, eval}
use Rattle.heap.specs.Heaps.{Heap, cell, Names, Reach, here, step, Rooted}
use Rattle.heap.specs.Solutions.{Naming, Valuation, span, Says, Sol, Tells, Apart}
use Rattle.heap.specs.declared.cell.Cell.{Cell}
use Rattle.heap.specs.declared.cell.Cell.TheVariants.{Unbound, Ref, Node}
use Rattle.heap.proofs.SpanLaws.{size, span_eval, span_size, span_len}
use Rattle.heap.proofs.HeapLaws.{cell_other, cell_same, reach_free}

-- a naming that tells the symbols apart does so when a cell becomes a reference
pub tells_ref : (names : Naming) (H : Heap) (i j : ℕ) → i < length H → Tells names H → Tells names (set H i (Ref j))
tells_ref names H i j lt t k l f g n p q at_k at_l =
    let old : (m s b : ℕ) → cell (set H i (Ref j)) m ≡ Node s n b → cell H m ≡ Node s n b = λ m s b e.
    elim (ℕ_discrete m i) [
      | yes x ↦ (let r : cell (set H i (Ref j)) m ≡ Ref j = ap (cell (set H i (Ref j))) x ∙ cell_same H i (Ref j) lt in let z : ◌≡◌ {A = ℕ} 0 1 = cc in absurd (omega arith))
      | no ne ↦ sym (cell_other H i m (Ref j) ne) ∙ e
    ] in
    t k l f g n p q (old k f p at_k) (old l g q at_l)

module _ (names : Naming) where
  pub says_ref : (H : Heap) (i k : ℕ) (ρ : Valuation) → Sol names H ρ → cell H i ≡ Ref k → ρ i ≡ ρ k
  says_ref H i k ρ s e = subst (λ c. Says names c i ρ) e (s i)

  -- an instance of a solution is a solution
  says_eval : (c : Cell) (i : ℕ) (ρ τ : Valuation) → Says names c i ρ → Says names c i (λ k. eval (ρ k) τ)
  says_eval Unbound i ρ τ h = tt
  says_eval (Ref k) i ρ τ h = ap (λ x. eval x τ) h
  says_eval (Node f n b) i ρ τ h = ap (λ x. eval x τ) h ∙ ap (node (names f)) (span_eval ρ τ b n)

  pub sol_eval : (H : Heap) (ρ τ : Valuation) → Sol names H ρ → Sol names H (λ k. eval (ρ k) τ)
  sol_eval H ρ τ s i = says_eval (cell H i) i ρ τ (s i)

  -- a write at i: what the other cells say is as it was
  pub sol_set : (H : Heap) (i : ℕ) (c : Cell) (ρ : Valuation) → i < length H → Sol names H ρ → Says names c i ρ → Sol names (set H i c) ρ
  sol_set H i c ρ lt s new k =
      elim (ℕ_discrete k i) [
        | yes q ↦ subst (λ x. Says names (cell (set H i c) x) x ρ) (sym q) (subst (λ x. Says names x i ρ) (sym (cell_same H i c lt)) new)
        | no ne ↦ subst (λ x. Says names x k ρ) (sym (cell_other H i k c ne)) (s k)
      ]

  pub sol_unset : (H : Heap) (i : ℕ) (c : Cell) (ρ : Valuation) → i < length H → Sol names (set H i c) ρ → Says names (cell H i) i ρ → Sol names H ρ
  sol_unset H i c ρ lt s old k =
      elim (ℕ_discrete k i) [
        | yes q ↦ subst (λ x. Says names (cell H x) x ρ) (sym q) old
        | no ne ↦ subst (λ x. Says names x k ρ) (cell_other H i k c ne) (s k)
      ]

  pub sol_set_says : (H : Heap) (i : ℕ) (c : Cell) (ρ : Valuation) → i < length H → Sol names (set H i c) ρ → Says names c i ρ
  sol_set_says H i c ρ lt s = subst (λ x. Says names x i ρ) (cell_same H i c lt) (s i)

  -- an unbound cell is bound
  module _ (H : Heap) (i j : ℕ) (lt : i < length H) (free : cell H i ≡ Unbound) (ρ : Valuation) where
    pub bind_into : Sol names (set H i (Ref j)) ρ → Sol names H ρ × (ρ i ≡ ρ j)
    bind_into s =
        (sol_unset H i (Ref j) ρ lt s (subst (λ x. Says names x i ρ) (sym free) tt), sol_set_says H i (Ref j) ρ lt s)

    pub bind_back : Sol names H ρ → ρ i ≡ ρ j → Sol names (set H i (Ref j)) ρ
    bind_back s e = sol_set H i (Ref j) ρ lt s e

  -- two structures are merged
  module _ (H : Heap) (i j f n p q : ℕ) (lt : i < length H) (ne : j ≢ i) (at_i : cell H i ≡ Node f n p) (at_j : cell H j ≡ Node f n q) (ρ : Valuation) where
    pub merge_back : Sol names H ρ → ρ i ≡ ρ j → Sol names (set H i (Ref j)) ρ × (span ρ p n ≡ span ρ q n)
    merge_back s e =
        let si : ρ i ≡ node (names f) (span ρ p n) = subst (λ x. Says names x i ρ) at_i (s i) in
        let sj : ρ j ≡ node (names f) (span ρ q n) = subst (λ x. Says names x j ρ) at_j (s j) in
        (sol_set H i (Ref j) ρ lt s e, cc)

    pub merge_into : Sol names (set H i (Ref j)) ρ → span ρ p n ≡ span ρ q n → Sol names H ρ × (ρ i ≡ ρ j)
    merge_into s e =
        let ij : ρ i ≡ ρ j = sol_set_says H i (Ref j) ρ lt s in
        let sj : ρ j ≡ node (names f) (span ρ q n) = subst (λ x. Says names x j ρ) (cell_other H i j (Ref j) ne ∙ at_j) (s j) in
        let si : ρ i ≡ node (names f) (span ρ p n) = ij ∙ sj ∙ ap (node (names f)) (sym e) in
        (sol_unset H i (Ref j) ρ lt s (subst (λ x. Says names x i ρ) (sym at_i) si), ij)

  -- two constants of one symbol have one term
  pub constants_same : (H : Heap) (i j f p q : ℕ) (ρ : Valuation) → cell H i ≡ Node f 0 p → cell H j ≡ Node f 0 q → Sol names H ρ → ρ i ≡ ρ j
  constants_same H i j f p q ρ at_i at_j s =
      let si : ρ i ≡ node (names f) nil = subst (λ x. Says names x i ρ) at_i (s i) in
      let sj : ρ j ≡ node (names f) nil = subst (λ x. Says names x j ρ) at_j (s j) in
      si ∙ sym sj

  -- sizes fall on the way down
  names_size : (c : Cell) (i j : ℕ) (ρ : Valuation) → Says names c i ρ → Names c j → size (ρ j) ≤ size (ρ i)
  names_size Unbound i j ρ s e = absurd e
  names_size (Ref k) i j ρ s e = omega (arith, ap (λ x. size (ρ x)) e, ap size s)
  names_size (Node f n b) i j ρ s e = omega (arith, ap size s, span_size ρ b n j e.0 e.1)

  node_size : (f n b i j : ℕ) (ρ : Valuation) → Says names (Node f n b) i ρ → Names (Node f n b) j → size (ρ j) < size (ρ i)
  node_size f n b i j ρ s e = omega (arith, ap size s, span_size ρ b n j e.0 e.1)

  pub reach_size : {H : Heap} {i j : ℕ} (ρ : Valuation) → Sol names H ρ → Reach H i j → size (ρ j) ≤ size (ρ i)
  reach_size ρ s here = omega arith
  reach_size {H} ρ s (step {i = a} {j = b} e p) =
      omega (arith, names_size (cell H a) a b ρ (s a) e, reach_size ρ s p)

-- a structure j from which another cell i is reached has another term than it
pub occurs_apart : (H : Heap) (i j f n q : ℕ) → cell H j ≡ Node f n q → i ≢ j → Reach H j i → Apart H i j
occurs_apart H i j f n q at_j ne here names ρ t s e = absurd (ne refl)
occurs_apart H i j f n q at_j ne (step {j = b} d p) names ρ t s e =
    omega (
      arith,
      node_size names f n q j b ρ (subst (λ x. Says names x j ρ) at_j (s j)) (subst (λ x. Names x b) at_j d),
      reach_size names ρ s p,
      ap size e,
    )

pub occurs : (H : Heap) (i j : ℕ) → Rooted (cell H j) → i ≢ j → Reach H j i → Apart H i j
occurs H i j root ne r = go (cell H j) refl root
  where
    go : (c : Cell) → cell H j ≡ c → Rooted c → Apart H i j
    go Unbound e _ = absurd (reach_free H i j e ne r)
    go (Ref k) e h = absurd h
    go (Node f n q) e _ = occurs_apart H i j f n q e ne r

-- two structures of another symbol or arity
pub clash_apart : (H : Heap) (i j f n p g m q : ℕ) → cell H i ≡ Node f n p → cell H j ≡ Node g m q → (f ≡ g → n ≡ m → ⊥) → Apart H i j
clash_apart H i j f n p g m q at_i at_j ne names ρ t s e =
    let si : ρ i ≡ node (names f) (span ρ p n) = subst (λ x. Says names x i ρ) at_i (s i) in
    let sj : ρ j ≡ node (names g) (span ρ q m) = subst (λ x. Says names x j ρ) at_j (s j) in
    let fg : names f ≡ names g = cc in
    let spans : span ρ p n ≡ span ρ q m = cc in
    let nm : n ≡ m = span_len ρ ρ p q n m spans in
    ne (t i j f g n p q at_i (at_j ∙ ap (λ x. Node g x q) (sym nm)) fg) nm

pub clash : (H : Heap) (i j f n p g m q : ℕ) → cell H i ≡ Node f n p → cell H j ≡ Node g m q → (f ≡ g → ⊥) ⊎ ((f ≡ g) × (n ≡ m → ⊥)) → Apart H i j
clash H i j f n p g m q at_i at_j d = clash_apart H i j f n p g m q at_i at_j (λ fg nm. ⊎_elim (λ a. a fg) (λ b. b.1 nm) d)

pub apart_swap : (H : Heap) (i j : ℕ) → Apart H j i → Apart H i j
apart_swap H i j n names ρ t s e = n names ρ t s (sym e)
