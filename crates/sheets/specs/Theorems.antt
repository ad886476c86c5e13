-- What holds of accepted lines.
use Rattle.std.specs.Prelude.{◌≡◌, ℕ, List, Ok}
use Rattle.horn.specs.Clauses.{Query, Callables}
use Rattle.horn.specs.Equations.{Deck, Proper}
use Rattle.horn.specs.Walk.{Posable}
use Rattle.lines.specs.Clauses.{read_query}
use Rattle.sheets.specs.Sheets.{deck_of, Printed}

-- clause lines and a query line print at most one list of lines
abbrev pub OnePrinted : Type 0
OnePrinted = (lines : List (List ℕ)) (line : List ℕ) (fuel : ℕ) (outs outs' : List (List ℕ)) → Printed lines line fuel outs → Printed lines line fuel outs' → outs ≡ outs'

-- accepted lines are as the theorems about decks and queries ask: heads and goals are no variables, and the query has a goal and is light
abbrev pub LinesFit : Type 0
LinesFit = (lines : List (List ℕ)) (line : List ℕ) (deck : Deck) (q : Query) → deck_of lines ≡ Ok deck → read_query line ≡ Ok q → Proper deck × Callables q × Posable q
