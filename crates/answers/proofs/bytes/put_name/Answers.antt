use Rattle.std.proofs.Common.{◌+◌, ◌<◌, [], ◌∷◌, ◌++◌, true, length, take, drop, sym, ap, ◌∙◌, arith}
use Rattle.std.proofs.lemmas.List.{take_more, drop_more, take-append-drop}
use Rattle.answers.proofs.TakeLaws.{puts_stop, puts_then, refused}
use Rattle.answers.proofs.bytes.put_name.Goals as goal

pub returns-in_err-put : goal.returns-in_err-put
returns-in_err-put g c =
    let name = g.N.Names.naming c.args.names.now c.args.symbol in
    let i = c.loop-i.i in
    let lt : i < length name = omega arith in
    puts_then (drop i name) (sym (take-append-drop i name)) c.loop-i.invariant
    (puts_stop (drop (i + 1) name) (drop_more name i 0 lt ∙ ap (λ b. b ∷ drop (i + 1) name) (sym c.name_byte.ensures)) (refused c.from_residual.result c.from_residual.ensures.0) c.in_err-put.ensures)

pub loop-i-preserved : goal.loop-i-preserved
loop-i-preserved g c =
    let name = g.N.Names.naming c.args.names.now c.args.symbol in
    let i = c.loop-i.i in
    let lt : i < length name = omega arith in
    puts_then {r = true} (c.name_byte.result ∷ []) (take_more name i 0 lt ∙ ap (λ b. take i name ++ b ∷ []) (sym c.name_byte.ensures)) c.loop-i.invariant c.in_ok-put.ensures
