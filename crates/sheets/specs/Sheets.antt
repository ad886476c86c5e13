-- Sheets: clause lines in order and a query line, what they print, and how a clause line is refused.
use Rattle.std.specs.Prelude.{◌≡◌, ℕ, List, [], ◌∷◌, Ok, Err, Result}
use Rattle.horn.specs.Clauses.{Query}
use Rattle.horn.specs.Equations.{Deck}
use Rattle.horn.specs.Transcript.{Prints}
use Rattle.lines.specs.declared.faults.LineFault.{LineFault}
use Rattle.lines.specs.Lines.{then}
use Rattle.lines.specs.Clauses.{read_clause, read_query}
use Rattle.lines.specs.Refusals.{line_refusal, refusal_line}

-- the clauses of the lines, or the fault of the first line that has one
abbrev pub deck_of : List (List ℕ) → Result Deck LineFault
deck_of [] = Ok []
deck_of (line ∷ lines) = then (λ e. e) (read_clause line) (λ c. then (λ e. e) (deck_of lines) (λ cs. Ok (c ∷ cs)))

-- clause lines and a query line that are accepted print the lines outs
pub record Printed (lines : List (List ℕ)) (line : List ℕ) (fuel : ℕ) (outs : List (List ℕ)) : Type 0 where
  pub deck : Deck
  pub query : Query
  pub clauses_read : deck_of lines ≡ Ok deck
  pub query_read : read_query line ≡ Ok query
  pub prints : Prints deck query fuel 0 outs

-- the clause line has a fault, and the text says which
abbrev pub Refused : List ℕ → List ℕ → Type 0
Refused line text = (e : LineFault) × (read_clause line ≡ Err e) × (refusal_line (line_refusal e) ≡ text)
