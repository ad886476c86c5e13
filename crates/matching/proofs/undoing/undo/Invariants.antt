use Rattle.std.proofs.Common.{length}
use Rattle.matching.specs.Trails.{Undoing}
use Rattle.matching.proofs.undoing.undo.Given as goal

abbrev pub invariant-loop-trail : goal.invariant-loop-trail
invariant-loop-trail l = Undoing l.initial.cells l.initial.trail l.mark l.cells l.trail

abbrev pub decreases-loop-trail : goal.decreases-loop-trail
decreases-loop-trail l = length l.trail
