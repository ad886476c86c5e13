use Rattle.std.proofs.Common.{◌≡◌, map, ap, sym, ◌∙◌, rules, tests}
use Rattle.std.proofs.lemmas.Iterator.{YieldsList-from_slice}
use Rattle.code.specs.Words.{decode}
use Rattle.code.specs.Passes.{onward, due, nothing_due, due_step}
use Rattle.code.proofs.Turns.{walk_through, through_words}
use Rattle.code.proofs.DueLaws.{dues_are}
use Rattle.code.proofs.structures.keeps_structures.Goals as goal

pub returns : goal.returns
returns c =
    let step = due_step c.args.arities.now in
    let e : c.is_some_and.result ≡ onward c.try_fold.result nothing_due = search rules in
    e ∙ ap (λ o. onward o nothing_due) (through_words step _ _ (due 0 0) c.try_fold.result (λ a x r q h. search (rules, tests)) c.try_fold.ensures.ran (YieldsList-from_slice c.args.code.now (cc)))
    ∙ sym (walk_through step nothing_due (map decode c.args.code.now) (due 0 0)) ∙ dues_are c.args.arities.now (map decode c.args.code.now)
