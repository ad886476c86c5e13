use Rattle.std.proofs.Common.{◌≡◌, map, length, drop, None}
use Rattle.image.specs.Rows.{row_of, row_fault}
use Rattle.image.specs.Checked.{code_fault}
use Rattle.image.proofs.clauses.check_code.Given as goal

abbrev pub invariant-loop-i : goal.invariant-loop-i
invariant-loop-i l = record {
  fault : code_fault l.arities l.code l.i (map row_of (drop l.i l.rows)) ≡ code_fault l.arities l.code 0 (map row_of l.rows);
  sound : row_fault (length l.arities) (length l.code) l.i (map row_of (drop l.i l.rows)) ≡ None;
}
