use Rattle.std.proofs.Common.{[], length, arith}
use Rattle.image.proofs.RowLaws.{code_within}
use Rattle.image.proofs.clauses.check_code.Goals as goal

pub offset_bounds-code-row : goal.offset_bounds-code-row
offset_bounds-code-row c =
    let p = code_within c.args.rows.now c.loop-i.i [] (length c.args.arities.now) (length c.args.code.now) c.from-row.result c.end_before-end.result c.loop-i-test.true c.from-row.ensures c.end_before-end.ensures c.loop-i.invariant.sound in
    omega arith

pub slice_bounds-own-end : goal.slice_bounds-own-end
slice_bounds-own-end c =
    let p = code_within c.args.rows.now c.loop-i.i [] (length c.args.arities.now) (length c.args.code.now) c.from-row.result c.end_before-end.result c.loop-i-test.true c.from-row.ensures c.end_before-end.ensures c.loop-i.invariant.sound in
    omega arith
