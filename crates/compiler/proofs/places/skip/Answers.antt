use Rattle.std.proofs.Common.{◌+◌, ◌<◌, length, sym, ap, ◌∙◌, subst}
use Rattle.compiler.specs.Tables.{table, ends_of}
use Rattle.compiler.proofs.TableLaws.{hop_more, run_at, after_at}
use Rattle.compiler.proofs.places.skip.Goals as goal

pub loop-preserved : goal.loop-preserved
loop-preserved c =
    let e = table (ends_of c.args.places.now) in
    let next = sym (after_at c.args.places.now c.loop.at _ (c.loop.invariant.1 c.loop-test.true)) ∙ ap e c.loop.invariant.0 ∙ sym (hop_more e c.loop.counter c.args.from) in
    (next, λ h. subst (λ x. x < length c.args.places.now) (sym next) (run_at e _ _ _ _ (c.loop.counter + 1) c.requires h))
