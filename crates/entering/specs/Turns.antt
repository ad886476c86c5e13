-- Cells and slots that change: what is asked of the terms that they had, and what those that they have keep.
use Rattle.std.specs.Prelude.{◌≡◌, ℕ, ◌+◌, ◌<◌, ◌≤◌, List, length, get_or, Some, None, Option, slice_index, slice_index_or, slice_set}
use Rattle.horn.specs.Terms.{node}
use Rattle.heap.specs.Heaps.{Heap, Closed}
use Rattle.heap.specs.Solutions.{Valuation, Sol, span}
use Rattle.heap.specs.declared.cell.Cell.{Cell}
use Rattle.heap.specs.declared.cell.Cell.TheVariants.{Unbound, Ref, Node}
use Rattle.code.specs.declared.instructions.Operand.{Operand}
use Rattle.code.specs.declared.instructions.Operand.TheVariants.{Fresh, Known, Constant}
use Rattle.code.specs.Meaning.{Symbols, Terming, given}
use Rattle.entering.specs.Goals.{Names, Typed}
use Rattle.entering.specs.Entries.{Same}

-- the cell of each slot that has one
abbrev pub Slots : Type 0
Slots = List (Option ℕ)

-- a slot has the term of its cell
abbrev pub Fits : Slots → Valuation → Terming → Type 0
Fits S ρ σ = (y i : ℕ) → slice_index_or S y None ≡ Some i → σ y ≡ ρ i

-- what may be said of cells ρ and slots σ
abbrev pub Claim : Type 1
Claim = Symbols → Valuation → Terming → Type 0

abbrev pub Nothing : Claim
Nothing = λ s ρ σ. Unit {0}

-- the slots have cells that are there
abbrev pub Inside : Slots → Heap → Type 0
Inside S H = (y i : ℕ) → slice_index_or S y None ≡ Some i → i < length H

-- the cells and slots are sound enough to go on with
pub record Stands (table : List ℕ) (H : Heap) (S : Slots) : Type 0 where
  pub closed : Closed H
  pub typed : Typed table H
  pub inside : Inside S H

-- of what solves H and S, that which has P goes on to H' and S'; what solves these has E
pub record Turned (table : List ℕ) (H : Heap) (S : Slots) (P E : Claim) (H' : Heap) (S' : Slots) : Type 0 where
  pub stands : Stands table H' S'
  pub longer : length H ≤ length H'
  pub into : (s : Symbols) → Names s table → (ρ : Valuation) (σ : Terming) → Sol s.name H' ρ → Fits S' ρ σ → Sol s.name H ρ × Fits S ρ σ × E s ρ σ
  pub back : (s : Symbols) → Names s table → (ρ : Valuation) (σ : Terming) → Sol s.name H ρ → Fits S ρ σ → P s ρ σ
      → (τ : Valuation) × Same (length H) ρ τ × Sol s.name H' τ × Fits S' τ σ

-- nothing that solves H and S has P
abbrev pub Unmet : List ℕ → Heap → Slots → Claim → Type 0
Unmet table H S P = (s : Symbols) → Names s table → (ρ : Valuation) (σ : Terming) → Sol s.name H ρ → Fits S ρ σ → P s ρ σ → ⊥

-- one of m slots, or a constant of the table
abbrev pub Takes : List ℕ → ℕ → Operand → Type 0
Takes table m (Fresh y) = y < m
Takes table m (Known y) = y < m
Takes table m (Constant c) = (c < length table) × (slice_index table c ≡ 0)

-- the slot is one of m
abbrev pub Taken : ℕ → Operand → Type 0
Taken m (Fresh y) = y < m
Taken m (Known y) = y < m
Taken m (Constant c) = Unit {0}

-- the cell i has the term that the operand names
abbrev pub Is : Operand → ℕ → Claim
Is o i = λ s ρ σ. ρ i ≡ given s o σ

-- the n cells from b on have those that the operands name in turn
abbrev pub Rows : ℕ → (ℕ → Operand) → ℕ → Claim
Rows b op n = λ s ρ σ. (j : ℕ) → j < n → ρ (b + j) ≡ given s (op j) σ

-- the cell i has the structure of f with the n terms that the operands name; the slot y has
abbrev pub Structure : ℕ → (ℕ → Operand) → ℕ → ℕ → Claim
Structure f op n i = λ s ρ σ. ρ i ≡ node (s.name f) (span (λ j. given s (op j) σ) 0 n)

abbrev pub SlotIs : ℕ → ℕ → (ℕ → Operand) → ℕ → Claim
SlotIs y f op n = λ s ρ σ. σ y ≡ node (s.name f) (span (λ j. given s (op j) σ) 0 n)

-- for every table of symbols that allows T, H and S turn to H' and S', or nothing has P
abbrev pub Turns : Heap → Slots → (List ℕ → Type 0) → Claim → Claim → Heap → Slots → Type 0
Turns H S T P E H' S' = (table : List ℕ) → Stands table H S → T table → Turned table H S P E H' S'

abbrev pub Fails : Heap → Slots → (List ℕ → Type 0) → Claim → Type 0
Fails H S T P = (table : List ℕ) → Stands table H S → T table → Unmet table H S P

-- n operands in turn
abbrev pub AllTake : ℕ → (ℕ → Operand) → ℕ → List ℕ → Type 0
AllTake m op n table = (j : ℕ) → j < n → Takes table m (op j)

abbrev pub AllTaken : ℕ → (ℕ → Operand) → ℕ → Type 0
AllTaken m op n = (j : ℕ) → j < n → Taken m (op j)

-- a structure of f, with n operands
pub record Built (m f : ℕ) (op : ℕ → Operand) (n : ℕ) (table : List ℕ) : Type 0 where
  pub known : f < length table
  pub size : get_or table f 0 ≡ n
  pub operands : AllTake m op n table

-- the cell that is made for an operand: a slot that has none takes it
abbrev pub slot_cell : Option ℕ → Cell
slot_cell None = Unbound
slot_cell (Some i) = Ref i

abbrev pub slot_set : Option ℕ → Slots → ℕ → ℕ → Slots
slot_set None S y i = slice_set S y (Some i)
slot_set (Some j) S y i = S

abbrev pub celled : Slots → Operand → Cell
celled S (Fresh y) = slot_cell (slice_index_or S y None)
celled S (Known y) = slot_cell (slice_index_or S y None)
celled S (Constant c) = Node c 0 0

abbrev pub slotted : Slots → Operand → ℕ → Slots
slotted S (Fresh y) i = slot_set (slice_index_or S y None) S y i
slotted S (Known y) i = slot_set (slice_index_or S y None) S y i
slotted S (Constant c) i = S
