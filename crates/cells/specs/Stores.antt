-- A store's cells and trail.
use Rattle.std.specs.Prelude.{List, take}
use Rattle.heap.specs.Heaps.{Heap}
use Rattle.matching.specs.declared.trail.Bound.{Bound}
use Rattle.cells.specs.declared.store.Store.{Store}

-- the cells in use
abbrev pub cells_of : Store → Heap
cells_of s = take s.top s.cells

-- the bindings to take back
abbrev pub bound_of : Store → List Bound
bound_of s = s.trail
