use Rattle.std.proofs.Common.{◌-◌, ◌&&◌, eqb, length, get_or, sym, ap, ◌∙◌, arith}
use Rattle.code.specs.Instructions.{number}
use Rattle.code.specs.Words.{decode}
use Rattle.code.proofs.FrameLaws.{closes_parts}
use Rattle.code.proofs.frame.ends_well.Goals as goal

pub returns-then-all_inner : goal.returns-then-all_inner
returns-then-all_inner c =
    let ws = c.args.code.now in
    let n = length ws - 1 in
    c.is_proceed.ensures ∙ ap (λ i. eqb (number i) 17) c.decode.ensures.value
    ∙ ap (λ t. t && eqb (number (decode (get_or ws n 0))) 17) (sym c.if-all_inner.true ∙ c.all_inner.ensures)
    ∙ sym (closes_parts ws n (omega arith))

pub returns-else-all_inner : goal.returns-else-all_inner
returns-else-all_inner c =
    let ws = c.args.code.now in
    let n = length ws - 1 in
    c.if-all_inner.false ∙ ap (λ t. t && eqb (number (decode (get_or ws n 0))) 17) (sym c.if-all_inner.false ∙ c.all_inner.ensures)
    ∙ sym (closes_parts ws n (omega arith))
