use Rattle.sheets.proofs.Working.{worked}
use Rattle.sheets.proofs.theorems.cases_are_worked.Goals as goal

pub returns : goal.returns
returns c = worked
