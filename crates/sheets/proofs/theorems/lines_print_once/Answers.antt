use Rattle.sheets.proofs.Printing.{one_printed}
use Rattle.sheets.proofs.theorems.lines_print_once.Goals as goal

pub returns : goal.returns
returns c = one_printed
