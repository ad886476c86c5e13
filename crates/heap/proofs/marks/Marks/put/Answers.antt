use Rattle.std.proofs.Common.{true, set, ap, ◌∙◌}
use Rattle.heap.proofs.StampLaws.{marked_put}
use Rattle.heap.proofs.marks.Marks.put.Goals as goal

pub returns-clause-marks : goal.returns-clause-marks
returns-clause-marks c = marked_put c.self.inside.stamps c.self.inside.last c.args.i ∙ ap (λ s. set s c.args.i true) c.self.view_is
