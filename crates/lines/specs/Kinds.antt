-- Clause lines and query lines.
use Rattle.std.specs.Prelude.{ℕ}
use Rattle.lines.specs.declared.kind.Kind.{Kind}
use Rattle.lines.specs.declared.kind.Kind.TheVariants.{Clause, Query}

-- the letter in the first field
abbrev pub mark : Kind → ℕ
mark Clause = 67
mark Query = 81

-- the least number of goals, which is also the weight of the first term's own field: a head's is 0, a goal's 1
abbrev pub least : Kind → ℕ
least Clause = 0
least Query = 1

-- the terms before the goals
abbrev pub heads : Kind → ℕ
heads Clause = 1
heads Query = 0
