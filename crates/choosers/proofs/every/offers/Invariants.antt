use Rattle.std.proofs.Common.{◌-◌, ◌≤◌}
use Rattle.choosers.specs.Picks.{Has}
use Rattle.choosers.specs.Rows.{Clash, row_of}
use Rattle.choosers.proofs.every.offers.Given as goal

abbrev pub invariant-loop-n : goal.invariant-loop-n
invariant-loop-n g l =
    l.m ≤ l.after → Has (g.C.Chooser.rows l.chooser) l.symbol l.m → Clash l.key (row_of (g.C.Chooser.rows l.chooser) l.m).key

abbrev pub decreases-loop-n : goal.decreases-loop-n
decreases-loop-n g l = 256 - l.after
