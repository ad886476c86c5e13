-- A query that is set up is stored at the empty path.
use Rattle.std.specs.Prelude.{◌≡◌, ℕ, ◌<◌, List, [], length, Some, None, slice_index, slice_index_or}
use Rattle.horn.specs.Terms.{Term, evals}
use Rattle.horn.specs.Clauses.{Variable, blank, Query}
use Rattle.heap.specs.Heaps.{Heap}
use Rattle.heap.specs.Solutions.{span}
use Rattle.code.specs.Meaning.{Symbols, Terming}
use Rattle.entering.specs.declared.goal.Goal.{Goal}
use Rattle.entering.specs.Goals.{Names}
use Rattle.entering.specs.Turns.{Slots}
use Rattle.entering.specs.Paths.{Coded, values, Stored}
use Rattle.posing.specs.declared.pieces.Piece.{Piece}
use Rattle.posing.specs.Queries.{goals_of}
use Rattle.posing.specs.Starts.{Started}

-- the words are the query q, whose variable y is the y-th of vs
pub record Spells (s : Symbols) (ps : List Piece) (q : Query) (vs : List Variable) : Type 0 where
  pub into : (σ : Terming) → (τ : Variable → Term ℕ) × (values τ vs ≡ span σ 0 (length vs)) × (evals q τ ≡ goals_of s σ ps)
  pub back : (τ : Variable → Term ℕ) → goals_of s (λ y. τ (slice_index_or vs y (blank 0))) ps ≡ evals q τ

-- the cells of the variables, as their slots have them
pub record Placed (vs : List Variable) (S : Slots) (Q : List ℕ) : Type 0 where
  pub long : length Q ≡ length vs
  pub at : (y : ℕ) → y < length vs → slice_index_or S y None ≡ Some (slice_index Q y)

abbrev pub StartStores : Type 0
StartStores =
    (s : Symbols) (table : List ℕ) → Names s table → (cs : List Coded) (ps : List Piece) (q : Query) (vs : List Variable) (H : Heap) (S : Slots) (Q : List ℕ) (G : List Goal)
    → Started table ps H S G → Spells s ps q vs → Placed vs S Q → Stored s cs q vs [] H Q G
