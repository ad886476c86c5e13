use Rattle.cells.specs.Stores.{cells_of, bound_of}
use Rattle.entry.specs.Operands.{put_at}
use Rattle.entry.specs.Loops.{Building}
use Rattle.entry.proofs.steps.pass.Given as goal

abbrev pub invariant-loop-k : goal.invariant-loop-k
invariant-loop-k l =
    Building (cells_of l.initial.store) (bound_of l.initial.store) l.initial.slots (put_at l.puts) l.k (cells_of l.store) (bound_of l.store) l.slots
