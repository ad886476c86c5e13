use Rattle.std.proofs.Common.{◌≡◌, map, drop}
use Rattle.image.specs.Rows.{row_of, row_fault}
use Rattle.image.proofs.rows.check_rows.Given as goal

abbrev pub invariant-loop-i : goal.invariant-loop-i
invariant-loop-i l = row_fault l.symbols l.size l.i (map row_of (drop l.i l.rows)) ≡ row_fault l.symbols l.size 0 (map row_of l.rows)
