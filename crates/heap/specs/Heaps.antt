-- Heaps of cells: what each cell names, and the ways down.
use Rattle.std.specs.Prelude.{◌≡◌, ℕ, zero, suc, ◌+◌, ◌<◌, ◌≤◌, List, [], ◌∷◌, length, slice_index_or}
use mathlib.Core.WellFounded.{Acc}
use Rattle.heap.specs.declared.cell.Cell.{Cell}
use Rattle.heap.specs.declared.cell.Cell.TheVariants.{Unbound, Ref, Node}

abbrev pub Heap : Type 0
Heap = List Cell

-- past the end every cell is unbound
abbrev pub cell : Heap → ℕ → Cell
cell H i = slice_index_or H i Unbound

-- the cells that a cell names: the arguments of a structure are n cells from b on
abbrev pub Names : Cell → ℕ → Type 0
Names Unbound j = ⊥
Names (Ref k) j = j ≡ k
Names (Node f n b) j = (b ≤ j) × (j < b + n)

abbrev pub Edge : Heap → ℕ → ℕ → Type 0
Edge H j i = Names (cell H i) j

-- every way down from i ends
abbrev pub Ends : Heap → ℕ → Type 0
Ends H i = Acc (Edge H) i

-- every way down ends: no cell leads back to itself
abbrev pub Sound : Heap → Type 0
Sound H = (i : ℕ) → Ends H i

-- each cell names cells of the heap
abbrev pub Closed : Heap → Type 0
Closed H = (i j : ℕ) → Edge H j i → j < length H

-- from i there is a way down to j
pub data Reach (H : Heap) : ℕ → ℕ → Type 0 where
  here : {i : ℕ} → Reach H i i
  step : {i j k : ℕ} → Edge H j i → Reach H j k → Reach H i k

-- a cell that is no reference
abbrev pub Rooted : Cell → Type 0
Rooted Unbound = Unit {0}
Rooted (Ref k) = ⊥
Rooted (Node f n b) = Unit {0}

-- the cells that the cell at i names are those of lo .. hi
pub record Below (H : Heap) (i lo hi : ℕ) : Type 0 where
  pub order : lo ≤ hi
  pub within : lo < hi → hi ≤ length H
  pub into : (j : ℕ) → Edge H j i → (lo ≤ j) × (j < hi)
  pub back : (j : ℕ) → lo ≤ j → j < hi → Edge H j i

-- the sum of what w gives each cell
abbrev pub total : (Cell → ℕ) → Heap → ℕ
total w [] = 0
total w (c ∷ H) = w c + total w H

abbrev pub arity : Cell → ℕ
arity Unbound = 0
arity (Ref k) = 0
arity (Node f n b) = n

-- 1 for a reference
abbrev pub refs : Cell → ℕ
refs Unbound = 0
refs (Ref k) = 1
refs (Node f n b) = 0

-- 1 for what may yet be bound: all but references
abbrev pub plain : Cell → ℕ
plain Unbound = 1
plain (Ref k) = 0
plain (Node f n b) = 1

-- how many references lead on from i, up to n
abbrev pub past : Cell → (ℕ → ℕ) → ℕ
past Unbound g = 0
past (Ref k) g = suc (g k)
past (Node f n b) g = 0

abbrev pub walk : ℕ → Heap → ℕ → ℕ
walk zero H i = 0
walk (suc n) H i = past (cell H i) (λ k. walk n H k)
