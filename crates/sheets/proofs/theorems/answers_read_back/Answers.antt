use Rattle.sheets.proofs.ReadingBack.{read_back}
use Rattle.sheets.proofs.theorems.answers_read_back.Goals as goal

pub returns : goal.returns
returns c = read_back
