-- What an accepted line says.
use Rattle.std.specs.Prelude.{◌≡◌, ◌+◌, Bool, List, [], length, Ok, Err, Result, ◌==◌}
use Rattle.lines.specs.declared.kind.Kind.{Kind}
use Rattle.lines.specs.declared.faults.LineFault.{LineFault}
use Rattle.lines.specs.declared.line.Line.{Line}
use Rattle.lines.specs.declared.fields.Fields.{Fields}
use Rattle.horn.specs.Terms.{count}
use Rattle.horn.specs.Clauses.{Clause, Query, Written, aparts}
use Rattle.horn.specs.Weights.{load}
use Rattle.horn.specs.Notation.{Word, wordss}
use Rattle.lines.specs.Fields.{after}
use Rattle.lines.specs.Kinds.{heads, least}
use Rattle.lines.specs.Spelled.{spelled}
use Rattle.lines.specs.Tokens.{words_of}
use Rattle.lines.specs.Clauses.{clause_from}

-- the words that are left
abbrev pub words_left : Fields → List Word
words_left fields = words_of (after fields.rest.now)

-- whether no field is left
abbrev pub none_left : Fields → Bool
none_left fields = length (after fields.rest.now) == 0

-- its terms as they are written: a clause's head and goals, a query's goals
abbrev pub terms_of : Line → Written
terms_of l = spelled l.body

-- the line's kind, number of goals, weight and tokens are those of its terms
pub record Counted (k : Kind) (l : Line) : Type 0 where
  pub kind : l.kind ≡ k
  pub goals : heads k + l.goals ≡ count (terms_of l)
  pub weight : l.weight ≡ load (least k) (terms_of l)
  pub tokens : words_left l.body ≡ wordss (terms_of l) []

abbrev pub said : Result Line LineFault → Result Written LineFault
said (Ok l) = Ok (terms_of l)
said (Err e) = Err e

abbrev pub said_clause : Result Line LineFault → Result Clause LineFault
said_clause (Ok l) = clause_from (terms_of l)
said_clause (Err e) = Err e

abbrev pub said_query : Result Line LineFault → Result Query LineFault
said_query (Ok l) = Ok (aparts 0 (terms_of l))
said_query (Err e) = Err e
