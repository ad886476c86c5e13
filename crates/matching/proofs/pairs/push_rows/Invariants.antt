use Rattle.std.proofs.Common.{◌≡◌, ◌++◌}
use Rattle.matching.specs.Unifies.{rows}
use Rattle.matching.proofs.pairs.push_rows.Given as goal

abbrev pub invariant-loop-k : goal.invariant-loop-k
invariant-loop-k g l = l.pairs.items ≡ l.initial.pairs.items ++ rows l.i l.j l.k
