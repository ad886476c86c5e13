-- The clause or query that a line is read as, and the lines that spell a clause or query.
use Rattle.std.specs.Prelude.{◌≡◌, ℕ, ◌+◌, List, take, Ok, Err, Result}
use Rattle.lines.specs.declared.kind.Kind.TheVariants.{Clause as ClauseLine, Query as QueryLine}
use Rattle.lines.specs.declared.faults.LineFault.{LineFault}
use Rattle.lines.specs.declared.faults.LineFault.TheVariants.{Missing}
use Rattle.horn.specs.Terms.{nil, cons}
use Rattle.horn.specs.Clauses.{Clause, Query, Written, written, blanks, apart, aparts}
use Rattle.lines.specs.Lines.{then, read}
use Rattle.lines.specs.Grammar.{Reading}

-- the head and the goals, each `_` a variable of its own
abbrev pub clause_from : Written → Result Clause LineFault
clause_from nil = Err (Missing 3)
clause_from (cons h gs) = Ok (record { head = apart 0 h; goals = aparts (0 + blanks h) gs })

abbrev pub read_clause : List ℕ → Result Clause LineFault
read_clause line = then (λ e. e) (read ClauseLine line) clause_from

abbrev pub read_query : List ℕ → Result Query LineFault
read_query line = then (λ e. e) (read QueryLine line) (λ ts. Ok (aparts 0 ts))

-- the n-th `_` of the line is the n-th blank, and no variable with a name is called `_`
abbrev pub Fresh : Query → Type 0
Fresh ts = aparts 0 (written ts) ≡ ts

-- the line spells the clause
pub record SpellsClause (line : List ℕ) (c : Clause) : Type 0 where
  pub fresh : Fresh (cons c.head c.goals)
  pub reading : Reading ClauseLine line (written (cons c.head c.goals))

-- the line spells the query
pub record SpellsQuery (line : List ℕ) (q : Query) : Type 0 where
  pub fresh : Fresh q
  pub reading : Reading QueryLine line (written q)

-- r is the one thing that the line spells, or a fault where it spells none
abbrev pub OneReading : {X : Type 0} → (X → Type 0) → Result X LineFault → Type 0
OneReading {X} Spelt r = (x : X) → (r ≡ Ok x → Spelt x) × (Spelt x → r ≡ Ok x)

-- the first n bytes of a line are read as the whole line is
abbrev pub EnoughRead : ℕ → Type 0
EnoughRead n = (line : List ℕ) → (read_clause (take n line) ≡ read_clause line) × (read_query (take n line) ≡ read_query line)
