use Rattle.entering.proofs.PathLaws.{path_step}
use Rattle.entering.proofs.theorems.entry_is_a_step.Goals as goal

pub returns : goal.returns
returns c = path_step
