use Rattle.std.proofs.Common.{ℕ, arith}
use lib.ListN.{length-replicate}
use Rattle.heap.specs.Limits.{cell_limit}
use Rattle.heap.proofs.StampLaws.{blank_stamps}
use Rattle.heap.proofs.marks.Marks.new.Goals as goal

pub invariant_of-result : goal.invariant_of-result
invariant_of-result c = (length-replicate {A = ℕ} cell_limit 0, λ i. omega (arith, blank_stamps cell_limit i))
