use Rattle.std.proofs.Common.{arith}
use Rattle.matching.proofs.TrailLaws.{bind_room, kept_one}
use Rattle.matching.proofs.binding.bind.Goals as goal

pub push-requires : goal.push-requires
push-requires c = omega (arith, bind_room c.args.cells.now c.args.i c.requires.within c.requires.root, c.requires.room)

pub returns-clause-kept : goal.returns-clause-kept
returns-clause-kept c = kept_one c.args.cells.now _ _ c.args.i c.args.j c.requires.within c.requires.root c.push.ensures.entries
