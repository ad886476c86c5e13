-- What entering a clause does: the goal g gives way to the goals that the code leaves.
use Rattle.std.specs.Prelude.{◌≡◌, ℕ, ◌<◌, List, length}
use Rattle.horn.specs.Terms.{Terms}
use Rattle.heap.specs.Heaps.{Heap}
use Rattle.heap.specs.Solutions.{Valuation, Sol, span}
use Rattle.code.specs.declared.instructions.Instruction.{Instruction}
use Rattle.code.specs.Meaning.{Symbols, Runs}
use Rattle.entering.specs.declared.goal.Goal.{Goal}
use Rattle.entering.specs.Goals.{vals}

-- the first n cells have the same terms
abbrev pub Same : ℕ → Valuation → Valuation → Type 0
Same n ρ τ = (k : ℕ) → k < n → ρ k ≡ τ k

-- the solutions of H' are those of H for which the code runs from the goal's arguments to the goals B, but for the terms of new cells
pub record Entered (s : Symbols) (H : Heap) (g : Goal) (code : List Instruction) (H' : Heap) (B : List Goal) : Type 0 where
  pub into : (ρ : Valuation) → Sol s.name H' ρ → Sol s.name H ρ × Runs s g.symbol code (span ρ g.first g.arity) (vals s ρ B)
  pub back : (ρ : Valuation) (gs : Terms ℕ) → Sol s.name H ρ → Runs s g.symbol code (span ρ g.first g.arity) gs
      → (τ : Valuation) × Same (length H) ρ τ × Sol s.name H' τ × (vals s τ B ≡ gs)

-- the code runs for no solution of H
abbrev pub Denied : Symbols → Heap → Goal → List Instruction → Type 0
Denied s H g code = (ρ : Valuation) (gs : Terms ℕ) → Sol s.name H ρ → Runs s g.symbol code (span ρ g.first g.arity) gs → ⊥
