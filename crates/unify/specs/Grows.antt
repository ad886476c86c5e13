-- What building and matching leave of a store.
use Rattle.cells.specs.Growth.{Grew}
use Rattle.cells.specs.Stores.{cells_of, bound_of}
use Rattle.cells.specs.declared.store.Store.{Store}

-- the later store has the earlier one's cells and bindings, and leads back to it
abbrev pub Grows : Store → Store → Type 0
Grows s t = Grew (cells_of s) (bound_of s) (cells_of t) (bound_of t)
