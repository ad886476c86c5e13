use Rattle.std.proofs.Common.{length}
use Rattle.unify.proofs.parts.Parts.read.Given as goal

abbrev pub decreases-loop-token : goal.decreases-loop-token
decreases-loop-token l = length l.fields.rest.now
