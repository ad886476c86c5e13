use Rattle.entering.proofs.KeyLaws.{key_denies}
use Rattle.entering.proofs.theorems.clashing_key_is_denied.Goals as goal

pub returns : goal.returns
returns c = key_denies
