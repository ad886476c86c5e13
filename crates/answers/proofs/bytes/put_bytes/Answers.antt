use Rattle.std.proofs.Common.{◌+◌, ◌<◌, [], ◌∷◌, true, length, get_or, drop, sym, rules}
use Rattle.std.proofs.lemmas.List.{take_more, drop_more, take-append-drop}
use Rattle.answers.proofs.TakeLaws.{puts_stop, puts_then, refused}
use Rattle.answers.proofs.bytes.put_bytes.Goals as goal

pub returns-in_err-put : goal.returns-in_err-put
returns-in_err-put g c =
    let bytes = c.args.bytes.now in
    let i = c.loop-b.b-index in
    let lt : i < length bytes = search rules in
    puts_then (drop i bytes) (sym (take-append-drop i bytes)) c.loop-b.invariant
    (puts_stop (drop (i + 1) bytes) (drop_more bytes i 0 lt) (refused c.from_residual.result c.from_residual.ensures.0) c.in_err-put.ensures)

pub loop-b-preserved : goal.loop-b-preserved
loop-b-preserved g c =
    let bytes = c.args.bytes.now in
    let i = c.loop-b.b-index in
    let lt : i < length bytes = search rules in
    puts_then {r = true} (get_or bytes i 0 ∷ []) (take_more bytes i 0 lt) c.loop-b.invariant c.in_ok-put.ensures
