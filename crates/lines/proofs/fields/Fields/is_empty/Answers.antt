use Rattle.std.proofs.Common.{◌∙◌}
use Rattle.lines.proofs.Runs.{after_empty}
use Rattle.lines.proofs.fields.Fields.is_empty.Goals as goal

pub returns : goal.returns
returns c = c.is_empty.ensures ∙ after_empty c.args.self.now.rest.now
