use Rattle.sheets.proofs.Fitting.{lines_fit}
use Rattle.sheets.proofs.theorems.lines_fit.Goals as goal

pub returns : goal.returns
returns c = lines_fit
