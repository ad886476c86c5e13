use Rattle.std.proofs.Common.{◌≡◌, ◌++◌, length, drop, reverse}
use Rattle.cells.specs.Stores.{cells_of}
use Rattle.posing.specs.Stacks.{Posing}
use Rattle.posing.specs.Starts.{from_top, no_goal}
use Rattle.posing.proofs.starting.start.Given as goal

abbrev pub invariant-loop-piece : goal.invariant-loop-piece
invariant-loop-piece l = record {
  cut : l.piece-iterator.iter.rest.now ++ drop (length l.piece-iterator.iter.rest.now) l.pieces ≡ l.pieces;
  posing : Posing l.table l.initial.slots (drop (length l.piece-iterator.iter.rest.now) l.pieces) (cells_of l.store) l.slots (reverse l.entries.items) (from_top no_goal l.goals l.count);
}
