use Rattle.horn.specs.Walk.{deck_tree}
use Rattle.horn.proofs.Following.{grows}
use Rattle.horn.proofs.Placing.{moves}
use Rattle.horn.proofs.theorems.search_is_exact.Goals as goal

pub returns : goal.returns
returns c deck q fuel h = moves (deck_tree deck q) (grows deck q h) fuel
