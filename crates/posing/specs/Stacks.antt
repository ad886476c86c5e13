-- A query that is half built, from the right.
use Rattle.std.specs.Prelude.{◌≡◌, ℕ, ◌+◌, ◌<◌, ◌≤◌, ◌⊎◌, List, [], ◌∷◌, length, Some, None, slice_index, slice_index_or}
use Rattle.std.specs.List.{AllByRecursion}
use Rattle.horn.specs.Terms.{Term, Terms, node, nil, cons}
use Rattle.heap.specs.Heaps.{Heap}
use Rattle.heap.specs.Solutions.{Valuation}
use Rattle.heap.specs.declared.cell.Cell.{Cell}
use Rattle.heap.specs.declared.cell.Cell.TheVariants.{Ref, Node}
use Rattle.cells.specs.Growth.{Spare}
use Rattle.code.specs.Meaning.{Symbols, Terming}
use Rattle.entering.specs.declared.goal.Goal.{Goal}
use Rattle.entering.specs.Goals.{vals, Good}
use Rattle.entering.specs.Turns.{Slots, Claim, Nothing, Turned, slot_cell, slot_set}
use Rattle.posing.specs.declared.pieces.Piece.{Piece}
use Rattle.posing.specs.declared.pieces.Entry.{Entry}
use Rattle.posing.specs.declared.pieces.Entry.TheVariants.{Constant, Variable, Cell as Place}
use Rattle.posing.specs.Queries.{stack, goals_of, waits, asked, weighs, Occurs}

-- the term of an entry
abbrev pub term : Symbols → Valuation → Terming → Entry → Term ℕ
term s ρ σ (Constant c) = node (s.name c) nil
term s ρ σ (Variable y) = σ y
term s ρ σ (Place i) = ρ i

abbrev pub terms_of : Symbols → Valuation → Terming → List Entry → Terms ℕ
terms_of s ρ σ [] = nil
terms_of s ρ σ (e ∷ es) = cons (term s ρ σ e) (terms_of s ρ σ es)

-- the n cells from b on have the terms of the entries in turn
abbrev pub Laid : ℕ → (ℕ → Entry) → ℕ → Claim
Laid b en n = λ s ρ σ. (j : ℕ) → j < n → ρ (b + j) ≡ term s ρ σ (en j)

-- a constant of the table, one of m slots, or one of n cells
abbrev pub Sits : List ℕ → ℕ → ℕ → Entry → Type 0
Sits table m n (Constant c) = (c < length table) × (slice_index table c ≡ 0)
Sits table m n (Variable y) = y < m
Sits table m n (Place i) = i < n

-- the entries and the goals have the terms of the words
abbrev pub Reads : List Entry → List Goal → List Piece → Claim
Reads es G ps = λ s ρ σ. (terms_of s ρ σ es ≡ stack s σ ps) × (vals s ρ G ≡ goals_of s σ ps)

-- the cell that is made for an entry
abbrev pub seated : Slots → Entry → Cell
seated S (Constant c) = Node c 0 0
seated S (Variable y) = slot_cell (slice_index_or S y None)
seated S (Place i) = Ref i

abbrev pub seated_slots : Slots → Entry → ℕ → Slots
seated_slots S (Constant c) i = S
seated_slots S (Variable y) i = slot_set (slice_index_or S y None) S y i
seated_slots S (Place j) i = S

-- a slot that has a cell
abbrev pub Has : Slots → ℕ → Type 0
Has S y = (i : ℕ) × (slice_index_or S y None ≡ Some i)

-- the variable y waits
abbrev pub Waiting : ℕ → List Entry → Type 0
Waiting y [] = ⊥
Waiting y (e ∷ es) = (e ≡ Variable y) ⊎ Waiting y es

-- the words ps have been built, from no cells and empty slots
pub record Posing (table : List ℕ) (S₀ : Slots) (ps : List Piece) (H : Heap) (S : Slots) (es : List Entry) (G : List Goal) : Type 0 where
  pub turned : Turned table [] S₀ Nothing (Reads es G ps) H S
  pub sits : AllByRecursion (Sits table (length S) (length H)) es
  pub goods : AllByRecursion (Good table (length H)) G
  pub count : length es ≡ waits ps
  pub goals_count : length G ≡ asked ps
  pub paid : length H + length es ≤ weighs ps
  -- a variable waits, or has a cell
  pub placed : (y : ℕ) → Occurs y ps → Waiting y es ⊎ Has S y

-- the j-th entry
abbrev pub entry_at : List Entry → ℕ → Entry
entry_at es = λ j. slice_index_or es j (Constant 0)

-- n cells have been made for the entries
pub record Seating (table : List ℕ) (H : Heap) (S : Slots) (en : ℕ → Entry) (n : ℕ) (H' : Heap) (S' : Slots) : Type 0 where
  pub turned : Turned table H S Nothing (Laid (length H) en n) H' S'
  pub long : length H' ≡ length H + n
  pub spare : Spare H' n
  -- no slot loses its cell, and those of the entries have one
  pub kept : (y : ℕ) → Has S y → Has S' y
  pub given : (j y : ℕ) → j < n → en j ≡ Variable y → Has S' y
