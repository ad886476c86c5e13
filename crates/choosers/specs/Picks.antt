-- What a pick of a row may be.
use Rattle.std.specs.Prelude.{◌≡◌, ℕ, ◌+◌, ◌<◌, ◌≤◌, List, length, Some, None, Option}
use Rattle.choosers.specs.declared.row.Row.{Row}
use Rattle.choosers.specs.Rows.{Clash, row_of}

-- row m is a row of the symbol
abbrev pub Has : List Row → ℕ → ℕ → Type 0
Has rows symbol m = (0 < m) × (m ≤ length rows) × ((row_of rows m).symbol ≡ symbol)

-- every row of the symbol between two numbers clashes with the key
abbrev pub Passed : List Row → ℕ → ℕ → ℕ → ℕ → Type 0
Passed rows symbol key after m = (i : ℕ) → after < i → i < m → (row_of rows i).symbol ≡ symbol → Clash key (row_of rows i).key

-- row m stands above `after` and has the symbol, and nothing was passed that does not clash
pub record Picked (rows : List Row) (symbol key after m : ℕ) : Type 0 where
  pub above : after < m
  pub within : m ≤ length rows
  pub has : (row_of rows m).symbol ≡ symbol
  pub passed : Passed rows symbol key after m

abbrev pub Picks : List Row → ℕ → ℕ → ℕ → Option ℕ → Type 0
Picks rows symbol key after None = Passed rows symbol key after (length rows + 1)
Picks rows symbol key after (Some m) = Picked rows symbol key after m

-- a pick whose row itself does not clash
abbrev pub Finds : List Row → ℕ → ℕ → ℕ → Option ℕ → Type 0
Finds rows symbol key after None = Passed rows symbol key after (length rows + 1)
Finds rows symbol key after (Some m) = Picked rows symbol key after m × (Clash key (row_of rows m).key → ⊥)
