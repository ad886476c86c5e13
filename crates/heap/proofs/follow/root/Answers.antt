use Rattle.std.proofs.Common.{◌∙◌}
use Rattle.heap.proofs.HeapLaws.{edge_ref}
use Rattle.heap.proofs.SolutionLaws.{says_ref}
use Rattle.heap.proofs.Chains.{walk_less}
use Rattle.heap.proofs.follow.root.Goals as goal

pub loop-at-smaller : goal.loop-at-smaller
loop-at-smaller c = walk_less c.args.cells.now c.loop-at.at c.in-Ref.next (c.requires.sound c.loop-at.at) c.in-Ref.is

pub loop-at-preserved : goal.loop-at-preserved
loop-at-preserved c = (
  c.requires.closed c.loop-at.at c.in-Ref.next (edge_ref c.args.cells.now c.loop-at.at c.in-Ref.next c.in-Ref.is),
  λ names ρ s. c.loop-at.invariant.1 names ρ s ∙ says_ref names c.args.cells.now c.loop-at.at c.in-Ref.next ρ s c.in-Ref.is,
)
