use Rattle.std.proofs.Common.{reverse}
use Rattle.cells.specs.Stores.{cells_of}
use Rattle.posing.specs.Stacks.{entry_at, Seating}
use Rattle.posing.proofs.entries.seat_all.Given as goal

abbrev pub invariant-loop-k : goal.invariant-loop-k
invariant-loop-k l = Seating l.table (cells_of l.initial.store) l.initial.slots (entry_at (reverse l.entries.items)) l.k (cells_of l.store) l.slots
