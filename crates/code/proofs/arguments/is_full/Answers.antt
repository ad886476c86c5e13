use Rattle.std.proofs.Common.{◌+◌, ◌&&◌, eqb, get_or, sym, refl, ap, ◌∙◌, tests, rules}
use Rattle.std.proofs.lemmas.Bool.{le-leb}
use Rattle.std.proofs.lemmas.Iterator.{YieldsList-from_range}
use Rattle.std.proofs.lemmas.Iterator.Search.{all_from_yields_List}
use Rattle.code.specs.Passes.{wanted}
use Rattle.code.proofs.ArgumentLaws.{below_range, once}
use Rattle.code.proofs.arguments.is_full.Goals as goal

pub returns-then-m-le-ARGUMENT_LIMIT : goal.returns-then-m-le-ARGUMENT_LIMIT
returns-then-m-le-ARGUMENT_LIMIT c =
    let counts = c.args.counts.now in
    let m = c.args.m in
    all_from_yields_List (λ a. eqb (get_or counts (a + 1) 0) (wanted m a)) _ _ _ c.all.ensures.ran (YieldsList-from_range 0 8 8 (cc) refl) (λ x b q k. search (rules, tests))
    ∙ below_range 8 (λ a. eqb (get_or counts (a + 1) 0) (wanted m a))
    ∙ ap (λ t. t && once m counts) (sym (le-leb m 8 c.if-m-le-ARGUMENT_LIMIT.true))
