use Rattle.std.proofs.Common.{◌≡◌, map, ap, sym, ◌∙◌, rules, tests}
use Rattle.std.proofs.lemmas.Iterator.{YieldsList-from_slice}
use Rattle.code.specs.Words.{decode}
use Rattle.code.specs.Passes.{onward, head, order_step}
use Rattle.code.proofs.OrderLaws.{done}
use Rattle.code.proofs.Turns.{walk_through, through_words}
use Rattle.code.proofs.OrderLaws.{order_is}
use Rattle.code.proofs.order.keeps_order.Goals as goal

pub returns : goal.returns
returns c =
    let e : c.is_some_and.result ≡ onward c.try_fold.result done = search rules in
    e ∙ ap (λ o. onward o done) (through_words order_step _ _ head c.try_fold.result (λ a x r q h. search (rules, tests)) c.try_fold.ensures.ran (YieldsList-from_slice c.args.code.now (cc)))
    ∙ sym (walk_through order_step done (map decode c.args.code.now) head) ∙ order_is (map decode c.args.code.now)
