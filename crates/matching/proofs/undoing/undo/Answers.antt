use Rattle.std.proofs.Common.{◌<◌, length, arith}
use Rattle.matching.proofs.TrailLaws.{undo_within, undoing_more}
use Rattle.matching.proofs.undoing.undo.Goals as goal

pub bounds-cells-bound : goal.bounds-cells-bound
bounds-cells-bound c =
    let more : c.args.mark < length c.loop-trail.trail = omega arith in
    undo_within _ c.pop-bound.result c.pop-bound.ensures.entries more c.loop-trail.invariant

pub loop-trail-preserved : goal.loop-trail-preserved
loop-trail-preserved c =
    let more : c.args.mark < length c.loop-trail.trail = omega arith in
    undoing_more _ c.pop-bound.result c.pop-bound.ensures.entries more c.loop-trail.invariant
