-- Matching: the pairs of cells that have yet to agree, and what is made of them.
use Rattle.std.specs.Prelude.{◌≡◌, ℕ, zero, suc, ◌+◌, ◌<◌, ◌≤◌, List, [], ◌∷◌, length}
use Rattle.std.specs.List.{AllByRecursion}
use Rattle.heap.specs.Heaps.{Heap, Sound, Closed, total, arity}
use Rattle.heap.specs.Solutions.{Naming, Valuation, Sol, Tells}
use Rattle.matching.specs.declared.pairs.Pair.{Pair}

-- H' has the solutions of H in which a and b have one term
pub record Unified (H H' : Heap) (a b : ℕ) : Type 0 where
  pub sound : Sound H'
  pub closed : Closed H'
  pub tells : (names : Naming) → Tells names H → Tells names H'
  pub into : (names : Naming) (ρ : Valuation) → Sol names H' ρ → Sol names H ρ × (ρ a ≡ ρ b)
  pub back : (names : Naming) (ρ : Valuation) → Sol names H ρ → ρ a ≡ ρ b → Sol names H' ρ

-- all pairs agree
abbrev pub Agree : Valuation → List Pair → Type 0
Agree ρ ps = AllByRecursion (λ p. ρ p.left ≡ ρ p.right) ps

abbrev pub Inside : Heap → List Pair → Type 0
Inside H ps = AllByRecursion (λ p. (p.left < length H) × (p.right < length H)) ps

abbrev pub pair : ℕ → ℕ → Pair
pair i j = record { left = i; right = j }

-- the n pairs from i and j on
abbrev pub rows : ℕ → ℕ → ℕ → List Pair
rows i j zero = []
rows i j (suc n) = pair i j ∷ rows (suc i) (suc j) n

-- the demand that i and j agree has gone into the heap and into the pairs
pub record Joined (H : Heap) (ps : List Pair) (i j : ℕ) (H' : Heap) (ps' : List Pair) : Type 0 where
  pub sound : Sound H'
  pub closed : Closed H'
  pub tells : (names : Naming) → Tells names H → Tells names H'
  pub inside : Inside H ps → Inside H' ps'
  pub into : (names : Naming) (ρ : Valuation) → Sol names H' ρ → Agree ρ ps' → Sol names H ρ × Agree ρ ps × (ρ i ≡ ρ j)
  pub back : (names : Naming) (ρ : Valuation) → Sol names H ρ → Agree ρ ps → ρ i ≡ ρ j → Sol names H' ρ × Agree ρ ps'
  pub falls : total arity H' + length ps' ≤ total arity H + length ps

-- what is left of the demand that a and b agree in H₀
pub record Unifying (H₀ : Heap) (a b : ℕ) (H : Heap) (ps : List Pair) : Type 0 where
  pub sound : Sound H
  pub closed : Closed H
  pub tells : (names : Naming) → Tells names H₀ → Tells names H
  pub inside : Inside H ps
  pub into : (names : Naming) (ρ : Valuation) → Sol names H ρ → Agree ρ ps → Sol names H₀ ρ × (ρ a ≡ ρ b)
  pub back : (names : Naming) (ρ : Valuation) → Sol names H₀ ρ → ρ a ≡ ρ b → Sol names H ρ × Agree ρ ps
  pub few : total arity H + length ps ≤ total arity H₀ + 1
