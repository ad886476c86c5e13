use Rattle.entering.proofs.PathLaws.{path_end}
use Rattle.entering.proofs.theorems.stored_path_passes.Goals as goal

pub returns : goal.returns
returns c = path_end
