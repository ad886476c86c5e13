-- What each cell of a sound heap stands for, and that it is the most general solution.
use Rattle.std.proofs.Common.{◌≡◌, ℕ, zero, suc, ◌+◌, ◌<◌, ◌≤◌, refl, ap, ◌∙◌, ap₂, arith}
use mathlib.Core.WellFounded.{Acc, Acc-prop}
use Rattle.horn.specs.Terms.{Term, Terms, var, node, nil, cons, eval, evals}
use Rattle.heap.specs.Heaps.{Heap, cell, Names, Ends, Sound}
use Rattle.heap.specs.Solutions.{Naming, Valuation, span, Says, Sol, General}
use Rattle.heap.specs.declared.cell.Cell.{Cell}
use Rattle.heap.specs.declared.cell.Cell.TheVariants.{Unbound, Ref, Node}

module _ (names : Naming) where
  -- the terms at the n places from i on
  abbrev row : (i n : ℕ) → ((j : ℕ) → i ≤ j → j < i + n → Term ℕ) → Terms ℕ
  row i zero g = nil
  row i (suc n) g = cons (g i (omega arith) (omega arith)) (row (suc i) n (λ j lo hi. g j (omega arith) (omega arith)))

  abbrev built : (c : Cell) (i : ℕ) → ((j : ℕ) → Names c j → Term ℕ) → Term ℕ
  built Unbound i g = var i
  built (Ref k) i g = g k refl
  built (Node f n b) i g = node (names f) (row b n (λ j lo hi. g j (lo, hi)))

  module _ (H : Heap) where
    abbrev pub den : {i : ℕ} → Ends H i → Term ℕ
    den (Acc.intro i h) = built (cell H i) i (λ j e. den (h j e))

    pub den_same : {i : ℕ} (a b : Ends H i) → den a ≡ den b
    den_same a b = ap den (Acc-prop a b)

  row_is : (σ : Valuation) (i n : ℕ) (g : (j : ℕ) → i ≤ j → j < i + n → Term ℕ)
      → ((j : ℕ) (lo : i ≤ j) (hi : j < i + n) → g j lo hi ≡ σ j) → row i n g ≡ span σ i n
  row_is σ i zero g e = refl
  row_is σ i (suc n) g e = ap₂ cons (e i (omega arith) (omega arith)) (row_is σ (suc i) n _ (λ j lo hi. e j (omega arith) (omega arith)))

  built_says : (c : Cell) (i : ℕ) (σ : Valuation) (g : (j : ℕ) → Names c j → Term ℕ)
      → σ i ≡ built c i g → ((j : ℕ) (e : Names c j) → g j e ≡ σ j) → Says names c i σ
  built_says Unbound i σ g q e = tt
  built_says (Ref k) i σ g q e = q ∙ e k refl
  built_says (Node f n b) i σ g q e = q ∙ ap (node (names f)) (row_is σ b n _ (λ j lo hi. e j (lo, hi)))

  built_free : (c : Cell) (i : ℕ) (g : (j : ℕ) → Names c j → Term ℕ) → c ≡ Unbound → built c i g ≡ var i
  built_free Unbound i g e = refl
  built_free (Ref k) i g e = cc
  built_free (Node f n b) i g e = cc

  -- every solution instantiates it
  row_eval : (ρ : Valuation) (i n : ℕ) (g : (j : ℕ) → i ≤ j → j < i + n → Term ℕ)
      → ((j : ℕ) (lo : i ≤ j) (hi : j < i + n) → ρ j ≡ eval (g j lo hi) ρ) → span ρ i n ≡ evals (row i n g) ρ
  row_eval ρ i zero g e = refl
  row_eval ρ i (suc n) g e = ap₂ cons (e i (omega arith) (omega arith)) (row_eval ρ (suc i) n _ (λ j lo hi. e j (omega arith) (omega arith)))

  built_eval : (c : Cell) (i : ℕ) (ρ : Valuation) (g : (j : ℕ) → Names c j → Term ℕ)
      → Says names c i ρ → ((j : ℕ) (e : Names c j) → ρ j ≡ eval (g j e) ρ) → ρ i ≡ eval (built c i g) ρ
  built_eval Unbound i ρ g q e = refl
  built_eval (Ref k) i ρ g q e = q ∙ e k refl
  built_eval (Node f n b) i ρ g q e = q ∙ ap (node (names f)) (row_eval ρ b n _ (λ j lo hi. e j (lo, hi)))

  module _ (H : Heap) (ρ : Valuation) (sol : Sol names H ρ) where
    pub den_eval : {i : ℕ} (a : Ends H i) → ρ i ≡ eval (den H a) ρ
    den_eval (Acc.intro i h) = built_eval (cell H i) i ρ _ (sol i) (λ j e. den_eval (h j e))

  module _ (H : Heap) (s : Sound H) where
    abbrev pub stands : Valuation
    stands i = den H (s i)

    opened : {i : ℕ} (a : Ends H i) → Says names (cell H i) i stands
    opened (Acc.intro i h) =
        built_says (cell H i) i stands (λ j e. den H (h j e)) (den_same H (s i) (Acc.intro i h)) (λ j e. den_same H (h j e) (s j))

    -- a sound heap has a solution
    pub stands_sol : Sol names H stands
    stands_sol i = opened (s i)

    -- and it is the most general one
    pub stands_general : (ρ : Valuation) → Sol names H ρ → (i : ℕ) → ρ i ≡ eval (stands i) ρ
    stands_general ρ sol i = den_eval H ρ sol (s i)

    -- an unbound cell stands for itself
    pub stands_free : (i : ℕ) → cell H i ≡ Unbound → stands i ≡ var i
    stands_free i free = go (s i)
      where
        go : (a : Ends H i) → den H a ≡ var i
        go (Acc.intro i' h) = built_free (cell H i) i (λ j e. den H (h j e)) free

pub general : General
general names H s = (stands names H s, record { solves = stands_sol names H s; general = stands_general names H s })
