-- An answer line, read back.
use Rattle.std.specs.Prelude.{◌≡◌, ℕ, ◌^◌, ◌<◌, List, length, drop, Ok}
use Rattle.horn.specs.Terms.{Name, Terms}
use Rattle.horn.specs.Clauses.{Query, Written}
use Rattle.horn.specs.Paths.{Path}
use Rattle.horn.specs.Equations.{Deck}
use Rattle.horn.specs.Answers.{OccursIn, Values, Answer, names_of, values_of, unbound, shown, answer_line}
use Rattle.lines.specs.Fields.{split}
use Rattle.lines.specs.Lines.{build}
use Rattle.lines.specs.Clauses.{read_query}
use Rattle.sheets.specs.Sheets.{deck_of}

-- the terms of an answer line: those of its fields after the letter and the number of names
abbrev pub answer_terms : List ℕ → Written
answer_terms line = build (drop 2 (split line))

-- different variables of the terms have different names
abbrev pub OneToOne : (ℕ → Name) → Terms ℕ → Type 0
OneToOne ν ts = (x y : ℕ) → OccursIn x ts → OccursIn y ts → ν x ≡ ν y → x ≡ y

-- the answer's line is read as each name before its value, with some names for the unbound variables
abbrev pub ReadsBack : Query → Values → Type 0
ReadsBack q θ = (ν : ℕ → Name) × OneToOne ν (values_of θ (names_of q)) × (answer_terms (answer_line q θ) ≡ shown ν θ (names_of q))

-- so it is for each answer to lines that are accepted, if fewer than 2 ^ 64 variables are unbound
abbrev pub AnswersReadBack : Type 0
AnswersReadBack = (lines : List (List ℕ)) (line : List ℕ) (deck : Deck) (q : Query) → deck_of lines ≡ Ok deck → read_query line ≡ Ok q → (p : Path) (θ : Values) → Answer deck q p θ → length (unbound (values_of θ (names_of q))) < 2 ^ 64 → ReadsBack q θ
