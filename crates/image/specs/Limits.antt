-- The limits of an image.
use Rattle.std.specs.Prelude.{ℕ}

abbrev pub symbol_limit : ℕ
symbol_limit = 256

abbrev pub clause_limit : ℕ
clause_limit = 256

-- the code words of all clauses
abbrev pub code_limit : ℕ
code_limit = 8192
