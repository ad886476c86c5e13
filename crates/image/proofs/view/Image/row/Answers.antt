use Rattle.std.proofs.Common.{arith}
use Rattle.image.proofs.RowLaws.{nth_row, nth_past}
use Rattle.image.proofs.view.Image.row.Goals as goal

pub returns-in_err-words : goal.returns-in_err-words
returns-in_err-words c = rw (c.from_residual.ensures, ← c.rows.ensures) (grind (arith, nth_past))

pub returns : goal.returns
returns c = rw (← c.rows.ensures) (grind (arith, nth_row))
