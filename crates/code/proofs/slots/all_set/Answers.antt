use Rattle.std.proofs.Common.{is_some, take, ◌∙◌, tests, rules}
use Rattle.std.proofs.lemmas.Iterator.{YieldsList-from_slice}
use Rattle.std.proofs.lemmas.Iterator.Search.{all_from_yields_List}
use Rattle.code.proofs.SlotLaws.{all_below}
use Rattle.code.proofs.slots.all_set.Goals as goal

pub returns : goal.returns
returns c =
    all_from_yields_List is_some _ _ _ c.all.ensures.ran (YieldsList-from_slice (take c.args.slots c.args.since.now) (cc)) (λ x b q k. search (rules, tests))
    ∙ all_below c.args.slots c.args.since.now (search rules)
