use Rattle.std.proofs.Common.{arith}
use Rattle.heap.proofs.HeapLaws.{below_ref, below_node, ref_within, node_fits}
use Rattle.heap.proofs.search.below.Goals as goal

pub overflow_add-result : goal.overflow_add-result
overflow_add-result c = omega (arith, ref_within c.args.cells.now c.requires.closed c.args.at c.in-Ref.next c.in-Ref.is)

pub overflow_add-result-in-Node : goal.overflow_add-result-in-Node
overflow_add-result-in-Node c = omega (arith, node_fits c.args.cells.now c.requires.closed c.args.at _ c.in-Node.arity c.in-Node.first c.in-Node.is)

pub returns-in-Ref : goal.returns-in-Ref
returns-in-Ref c = below_ref c.args.cells.now c.requires.closed c.args.at c.in-Ref.next c.in-Ref.is

pub returns-in-Node : goal.returns-in-Node
returns-in-Node c = below_node c.args.cells.now c.requires.closed c.args.at _ c.in-Node.arity c.in-Node.first c.in-Node.is
