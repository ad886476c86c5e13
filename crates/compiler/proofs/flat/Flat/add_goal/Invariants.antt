use Rattle.std.proofs.Common.{◌≡◌, ◌≤◌, length}
use Rattle.compiler.specs.Steps.{GoalDown}
use Rattle.compiler.specs.Tables.{laid}
use Rattle.compiler.proofs.flat.Flat.add_goal.Given as goal

abbrev pub invariant-loop-i : goal.invariant-loop-i
invariant-loop-i l = record {
  built : GoalDown (laid l.self) l.initial.draft.words.items l.draft.words.items l.from l.i l.end l.initial.draft.filled.items l.draft.filled.items;
  slots : length l.draft.filled.items ≡ length l.initial.draft.filled.items;
  low : l.from ≤ l.i;
  high : l.i ≤ l.end;
}
