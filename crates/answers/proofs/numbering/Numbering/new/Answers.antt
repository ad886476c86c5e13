use Rattle.answers.proofs.NumberLaws.{numbered_none, none_at}
use Rattle.answers.proofs.numbering.Numbering.new.Goals as goal

pub returns : goal.returns
returns c = numbered_none _ (λ v l. none_at 4224 v)
