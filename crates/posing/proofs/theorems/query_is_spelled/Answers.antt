use Rattle.posing.proofs.SpellLaws.{query_spelled}
use Rattle.posing.proofs.theorems.query_is_spelled.Goals as goal

pub returns : goal.returns
returns c = query_spelled
