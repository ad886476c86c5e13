use Rattle.horn.specs.Walk.{deck_tree}
use Rattle.horn.proofs.Unique.{one_reply}
use Rattle.horn.proofs.theorems.replies_are_decided.Goals as goal

pub returns : goal.returns
returns c deck q fuel = one_reply (deck_tree deck q) fuel
