-- What a query prints.
use Rattle.std.specs.Prelude.{ℕ, ◌+◌, List, [], ◌∷◌}
use Rattle.horn.specs.Clauses.{Query}
use Rattle.horn.specs.Paths.{Path}
use Rattle.horn.specs.Equations.{Deck}
use Rattle.horn.specs.Walk.{deck_tree, Answered, Exhausted, Stopped}
use Rattle.horn.specs.Answers.{AnswerLine}
use Rattle.horn.specs.Notation.{tally_line, halt_line}

-- the lines after the first n answers: the next answer and what follows it, or the tally of the end or of the halt
pub data Prints (deck : Deck) (q : Query) (fuel : ℕ) : ℕ → List (List ℕ) → Type 0 where
  answer : {n : ℕ} {line : List ℕ} {lines : List (List ℕ)} (p : Path) (s : ℕ) → Answered (deck_tree deck q) fuel p (n + 1) s → AnswerLine deck q p line → Prints deck q fuel (n + 1) lines → Prints deck q fuel n (line ∷ lines)
  end : {n : ℕ} (s : ℕ) → Exhausted (deck_tree deck q) fuel n s → Prints deck q fuel n (tally_line n s ∷ [])
  halt : {n : ℕ} (m s : ℕ) → Stopped (deck_tree deck q) fuel m n s → Prints deck q fuel n (halt_line m n s ∷ [])
