use Rattle.cells.specs.Stores.{cells_of, bound_of}
use Rattle.entry.specs.Operands.{worded}
use Rattle.entry.specs.Loops.{Reading}
use Rattle.entry.proofs.structures.read.Given as goal

abbrev pub invariant-loop-k : goal.invariant-loop-k
invariant-loop-k l =
    Reading (cells_of l.initial.store) (bound_of l.initial.store) l.initial.slots (worded l.words) l.first l.k (cells_of l.store) (bound_of l.store) l.slots
