-- Structures that are half made, or half read.
use Rattle.std.specs.Prelude.{◌≡◌, ℕ, ◌+◌, ◌≤◌, List, length}
use Rattle.heap.specs.Heaps.{Heap}
use Rattle.matching.specs.declared.trail.Bound.{Bound}
use Rattle.cells.specs.Growth.{Spare, Grew}
use Rattle.code.specs.declared.instructions.Operand.{Operand}
use Rattle.entering.specs.Turns.{Slots, Inside, Nothing, Turns, AllTake, Rows}

-- k cells have been made for the operands
pub record Building (H : Heap) (t : List Bound) (S : Slots) (op : ℕ → Operand) (k : ℕ) (H' : Heap) (t' : List Bound) (S' : Slots) : Type 0 where
  pub grew : Grew H t H' t'
  pub long : length H' ≡ length H + k
  pub spare : Spare H' k
  pub inside : Inside S' H'
  pub rows : Turns H S (AllTake (length S) op k) Nothing (Rows (length H) op k) H' S'

-- k cells from b on have been equated with the operands
pub record Reading (H : Heap) (t : List Bound) (S : Slots) (op : ℕ → Operand) (b k : ℕ) (H' : Heap) (t' : List Bound) (S' : Slots) : Type 0 where
  pub grew : Grew H t H' t'
  pub long : length H' ≤ length H + k
  pub inside : Inside S' H'
  pub rows : Turns H S (AllTake (length S) op k) (Rows b op k) (Rows b op k) H' S'
