use Rattle.std.proofs.Common.{inl, inr, is_ok, ap}
use Rattle.entering.specs.Turns.{Is}
use Rattle.entry.proofs.GetLaws.{slot_told, constant_any}
use Rattle.entry.proofs.operands.get.Goals as goal

pub returns-in-Fresh-clause-result : goal.returns-in-Fresh-clause-result
returns-in-Fresh-clause-result c =
    slot_told c.args.o _ _ _ _ c.in-Fresh.y c.args.i (is_ok c.get_slot.result) (elim c.in-Fresh.is [ inl e ↦ ap (λ o. Is o c.args.i) e | inr e ↦ ap (λ o. Is o c.args.i) e ]) c.get_slot.ensures.result

pub returns-in-Constant-clause-result : goal.returns-in-Constant-clause-result
returns-in-Constant-clause-result c = constant_any c.args.o c.in-Constant.c c.in-Constant.is _ _ c.args.slots.now c.args.i (is_ok c.get_constant.result) c.get_constant.ensures.result
