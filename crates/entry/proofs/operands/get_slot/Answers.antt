use Rattle.std.proofs.Common.{is_ok}
use Rattle.entry.proofs.GetLaws.{known_told, fresh_told}
use Rattle.entry.proofs.operands.get_slot.Goals as goal

pub returns-in-Some-clause-result : goal.returns-in-Some-clause-result
returns-in-Some-clause-result c =
    known_told _ _ _ _ c.args.slots.now c.args.y c.args.i c.in-Some.j (is_ok c.unify.result) c.unify.ensures.kept c.in-Some.is c.unify.ensures.result

pub returns-clause-result : goal.returns-clause-result
returns-clause-result c = fresh_told _ c.args.slots.now c.args.y c.args.i c.requires.within c.requires.y_within c.in_default.is
