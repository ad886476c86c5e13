-- Images that stand for a deck's clauses.
use Rattle.std.specs.Prelude.{◌≡◌, ℕ, ◌+◌, List, [], ◌∷◌, map, length, Ok}
use Rattle.horn.specs.Clauses.{Clause}
use Rattle.horn.specs.Weights.{clause_weight}
use Rattle.horn.specs.Equations.{Deck}
use Rattle.code.specs.Words.{decode}
use Rattle.code.specs.Meaning.{Denotes}
use Rattle.image.specs.declared.rows.Row.{Row}
use Rattle.image.specs.Rows.{next, code_of}
use Rattle.image.specs.Checked.{Parts, checked}
use Rattle.image.specs.Programs.{symbols_in}

-- the code of a row denotes the clause, and has two words more than this weighs
pub record StandsFor (p : Parts) (r : Row) (code : List ℕ) (c : Clause) : Type 0 where
  pub denotes : Denotes (symbols_in p) r.predicate (map decode code) c
  pub size : length code ≡ clause_weight c + 2

-- the rows stand for the clauses, one for each and in their order
abbrev pub StandFor : Parts → List Row → Deck → Type 0
StandFor p [] [] = Unit {0}
StandFor p [] (c ∷ cs) = ⊥
StandFor p (r ∷ rs) [] = ⊥
StandFor p (r ∷ rs) (c ∷ cs) = StandsFor p r (code_of p.code r (next (length p.code) rs)) c × StandFor p rs cs

-- the words are an image of the deck's clauses
pub record DeckImage (words : List ℕ) (deck : Deck) : Type 0 where
  pub parts : Parts
  pub accepted : checked words ≡ Ok parts
  pub clauses : StandFor parts parts.rows deck
