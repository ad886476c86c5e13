use Rattle.cells.specs.Stores.{cells_of, bound_of}
use Rattle.entry.specs.Operands.{worded}
use Rattle.entry.specs.Loops.{Building}
use Rattle.entry.proofs.structures.build.Given as goal

abbrev pub invariant-loop-word : goal.invariant-loop-word
invariant-loop-word l =
    Building (cells_of l.initial.store) (bound_of l.initial.store) l.initial.slots (worded l.words) l.word-index (cells_of l.store) (bound_of l.store) l.slots
