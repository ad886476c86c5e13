use Rattle.std.proofs.Common.{arith}
use Rattle.heap.specs.Limits.{cell_limit}
use Rattle.heap.proofs.StampLaws.{marked_none}
use Rattle.heap.proofs.marks.Marks.clear.Goals as goal

pub returns : goal.returns
returns c = marked_none c.self.inside.stamps _ cell_limit c.self.invariant.0 (λ i. omega (arith, c.self.invariant.1 i))
