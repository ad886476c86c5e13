-- The limits of lines.
use Rattle.std.specs.Prelude.{ℕ}

-- the bytes of a line
abbrev pub line_limit : ℕ
line_limit = 512

-- the bytes of a name or variable
abbrev pub name_limit : ℕ
name_limit = 31

-- the goals of a line, and the terms of a structure
abbrev pub goal_limit : ℕ
goal_limit = 8

abbrev pub arity_limit : ℕ
arity_limit = 8
