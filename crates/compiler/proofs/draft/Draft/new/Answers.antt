use Rattle.std.proofs.Common.{take, false, ap, ◌∙◌}
use Rattle.std.proofs.lemmas.List.{take-replicate}
use Rattle.compiler.proofs.draft.Draft.new.Goals as goal

pub returns-clause-filled : goal.returns-clause-filled
returns-clause-filled c = c.truncate.ensures.items ∙ ap (take c.args.slots) c.from-filled.ensures.0 ∙ take-replicate c.args.slots 128 false c.requires
