use Rattle.std.proofs.Common.{◌≡◌, ◌++◌, map, take}
use Rattle.heap.specs.declared.cell.Cell.TheVariants.{Ref}
use Rattle.cells.specs.Growth.{Grew}
use Rattle.cells.specs.Stores.{cells_of, bound_of}
use Rattle.cells.proofs.store.Store.push_structure.Given as goal

abbrev pub invariant-loop-x : goal.invariant-loop-x
invariant-loop-x l = record {
  cells : cells_of l.self ≡ cells_of l.initial.self ++ map Ref (take l.x-index l.args);
  trail : bound_of l.self ≡ bound_of l.initial.self;
  grew : Grew (cells_of l.initial.self) (bound_of l.initial.self) (cells_of l.self) (bound_of l.self);
}
