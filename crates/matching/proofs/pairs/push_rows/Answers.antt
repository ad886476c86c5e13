use Rattle.std.proofs.Common.{length, ap, arith, rules, length-append}
use Rattle.matching.specs.Unifies.{rows}
use Rattle.matching.proofs.RowLaws.{rows_length, rows_push}
use Rattle.matching.proofs.pairs.push_rows.Goals as goal

pub push-requires : goal.push-requires
push-requires g c =
    let i = c.args.i in
    let j = c.args.j in
    (search rules, omega (arith, c.requires.room, ap length c.loop-k.invariant, length-append c.args.pairs.now.items (rows i j c.loop-k.k), rows_length i j c.loop-k.k))

pub loop-k-preserved : goal.loop-k-preserved
loop-k-preserved g c = rows_push _ _ _ c.args.i c.args.j c.loop-k.k c.loop-k.invariant c.push.ensures.items
