-- Rows and their keys.
use Rattle.std.specs.Prelude.{ℕ, ◌-◌, ◌<◌, cond, ◌||◌, List, [], ◌∷◌, ◌++◌, length, Some, None, Option, ◌==◌, ◌≢◌, nat_lt, slice_index_or}
use Rattle.choosers.specs.declared.row.Row.{Row}

abbrev pub blank : Row
blank = record { symbol = 0; key = 0 }

-- two keys clash where both are above 0 and they differ
abbrev pub Clash : ℕ → ℕ → Type 0
Clash j k = (0 < j) × (0 < k) × (j ≢ k)

-- one row more, if there are not 256
abbrev pub noted : List Row → Row → List Row
noted rows row = cond (nat_lt (length rows) 256) (rows ++ row ∷ []) rows

-- row m of the list, counted from 1
abbrev pub row_of : List Row → ℕ → Row
row_of rows m = slice_index_or rows (m - 1) blank

-- row m, or none outside the list
abbrev pub row_at : List Row → ℕ → Option Row
row_at rows m = cond (m == 0 || nat_lt (length rows) m) None (Some (row_of rows m))
