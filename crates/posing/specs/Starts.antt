-- Cells that stand for a query.
use Rattle.std.specs.Prelude.{◌≡◌, ℕ, zero, suc, ◌≤◌, List, [], ◌∷◌, length, Some, None, Option, slice_index_or}
use Rattle.std.specs.List.{AllByRecursion}
use Rattle.heap.specs.Heaps.{Heap}
use Rattle.heap.specs.Solutions.{Valuation, Sol}
use Rattle.code.specs.Meaning.{Symbols, Terming}
use Rattle.entering.specs.declared.goal.Goal.{Goal}
use Rattle.entering.specs.Goals.{vals, Names, Good}
use Rattle.entering.specs.Turns.{Slots, Fits, Stands}
use Rattle.posing.specs.declared.pieces.Piece.{Piece}
use Rattle.posing.specs.declared.pieces.Entry.{Entry}
use Rattle.posing.specs.Queries.{goals_of, weighs, Occurs}
use Rattle.posing.specs.Stacks.{Posing, Has}

-- the first n of a list, the last of them first
abbrev pub from_top : {X : Type 0} → X → List X → ℕ → List X
from_top d xs zero = []
from_top d xs (suc n) = slice_index_or xs n d ∷ from_top d xs n

abbrev pub no_goal : Goal
no_goal = record { symbol = 0; arity = 0; first = 0 }

-- the goals, with one that a word leaves before them
abbrev pub left_by : Option Goal → List Goal → List Goal
left_by None G = G
left_by (Some g) G = g ∷ G

-- one word more has been built
abbrev pub Builds : List ℕ → Piece → Heap → Slots → List Entry → List Goal → Heap → Slots → List Entry → List Goal → Type 0
Builds table p H S es G H' S' es' G' = (S₀ : Slots) (ps : List Piece) → Posing table S₀ ps H S es G → Posing table S₀ (p ∷ ps) H' S' es' G'

-- the cells, with the slots of the variables and the goals, have just the terms of the query's instances
pub record Started (table : List ℕ) (ps : List Piece) (H : Heap) (S : Slots) (G : List Goal) : Type 0 where
  pub stands : Stands table H S
  pub goods : AllByRecursion (Good table (length H)) G
  pub paid : length H ≤ weighs ps
  pub placed : (y : ℕ) → Occurs y ps → Has S y
  pub into : (s : Symbols) → Names s table → (ρ : Valuation) (σ : Terming) → Sol s.name H ρ → Fits S ρ σ → vals s ρ G ≡ goals_of s σ ps
  pub back : (s : Symbols) → Names s table → (σ : Terming) → (ρ : Valuation) × Sol s.name H ρ × Fits S ρ σ
