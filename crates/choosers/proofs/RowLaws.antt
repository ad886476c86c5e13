-- The rows told.
use Rattle.std.proofs.Common.{◌≡◌, ℕ, ◌<◌, ◌≤◌, eqb, ltb, List, length, Some, arith}
use Rattle.std.proofs.lemmas.Bool.{cond-false, le-ltb, or_from, ne_eqb}
use Rattle.choosers.specs.declared.row.Row.{Row}
use Rattle.choosers.specs.Rows.{row_of, row_at}

-- row m, where there is one
pub row_there : (rows : List Row) (m : ℕ) → 0 < m → m ≤ length rows → row_at rows m ≡ Some (row_of rows m)
row_there rows m low le = cond-false _ _ _ (or_from (eqb m 0) (ltb (length rows) m) (ne_eqb m 0 (λ e. absurd (omega arith))) (le-ltb (length rows) m le))
