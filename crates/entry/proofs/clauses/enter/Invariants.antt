use Rattle.std.proofs.Common.{map, length}
use Rattle.cells.specs.Growth.{Grew}
use Rattle.cells.specs.Stores.{cells_of, bound_of}
use Rattle.code.specs.Words.{decode}
use Rattle.entry.specs.Runs.{setting_of, state_of, Reached}
use Rattle.entry.proofs.clauses.enter.Given as goal

abbrev pub invariant-loop-word : goal.invariant-loop-word
invariant-loop-word l = record {
  grew : Grew (cells_of l.initial.store) (bound_of l.initial.store) (cells_of l.store) (bound_of l.store);
  reached : Reached (setting_of l.table l.goal) (state_of (cells_of l.initial.store) l.initial.registers (map decode l.code)) (state_of (cells_of l.store) l.registers (map decode l.left));
}

abbrev pub decreases-loop-word : goal.decreases-loop-word
decreases-loop-word l = length l.left
