use Rattle.horn.proofs.Lines.{one_line}
use Rattle.horn.proofs.theorems.line_is_decided.Goals as goal

pub returns : goal.returns
returns c = one_line
