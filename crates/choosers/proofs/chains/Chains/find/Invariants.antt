use Rattle.std.proofs.Common.{length, take}
use Rattle.choosers.proofs.PickLaws.{Walked, ahead}
use Rattle.choosers.proofs.chains.Chains.find.Given as goal

abbrev pub invariant-loop-at : goal.invariant-loop-at
invariant-loop-at l = Walked (take l.self.len l.self.links) l.symbol l.key l.after l.at

abbrev pub decreases-loop-at : goal.decreases-loop-at
decreases-loop-at l = ahead (length (take l.self.len l.self.links)) l.at
