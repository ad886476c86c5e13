-- The limit of cells.
use Rattle.std.specs.Prelude.{ℕ}

abbrev pub cell_limit : ℕ
cell_limit = 4224
