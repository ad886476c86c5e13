use Rattle.horn.proofs.Agreeing.{agreement}
use Rattle.horn.proofs.theorems.equations_are_instances.Goals as goal

pub returns : goal.returns
returns c = agreement
