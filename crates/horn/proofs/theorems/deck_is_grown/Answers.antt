use Rattle.horn.proofs.Following.{grows}
use Rattle.horn.proofs.theorems.deck_is_grown.Goals as goal

pub returns : goal.returns
returns c = grows
