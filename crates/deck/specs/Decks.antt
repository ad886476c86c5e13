-- The deck: its lines, their symbols by first occurrence, and the words of their code.
use Rattle.std.specs.Prelude.{ℕ, ◌+◌, cond, List, [], ◌∷◌, ◌++◌, length, Some, None, Ok, Err, Option, Result, nat_lt}
use Rattle.horn.specs.Terms.{cons}
use Rattle.horn.specs.Clauses.{Clause, written}
use Rattle.horn.specs.Weights.{clause_weight}
use Rattle.horn.specs.Notation.{Word, wordss}
use Rattle.lines.specs.declared.faults.Area.{Area}
use Rattle.lines.specs.declared.faults.Area.TheVariants.{Clauses, Symbols, CodeWords}
use Rattle.lines.specs.declared.faults.CallFault.{CallFault}
use Rattle.lines.specs.declared.faults.CallFault.TheVariants.{Line, Limit}
use Rattle.lines.specs.Lines.{then}
use Rattle.lines.specs.Refusals.{area_place}
use Rattle.lines.specs.Clauses.{read_clause}
use Rattle.symbol_table.specs.Symbols.{Signature}
use Rattle.symbol_table.specs.Numbers.{note_words}

pub record Contents : Type 0 where
  pub lines : List (List ℕ)
  pub symbols : Signature
  pub words : ℕ

-- the words of a clause's line
abbrev pub words_in : Clause → List Word
words_in c = wordss (written (cons c.head c.goals)) []

-- the contents with one more line, which is that clause's
abbrev pub extended : Contents → List ℕ → Clause → Contents
extended d line c = record {
  lines = d.lines ++ line ∷ [];
  symbols = note_words d.symbols (words_in c);
  words = d.words + (clause_weight c + 2);
}

-- the first of clauses, symbols and code words that pass their limit
abbrev pub passed : Contents → Option Area
passed d =
    cond (nat_lt 256 (length d.lines)) (Some Clauses)
    (cond (nat_lt 256 (length d.symbols)) (Some Symbols)
    (cond (nat_lt 8192 d.words) (Some CodeWords) None))

abbrev pub within : Contents → Option Area → Result Contents CallFault
within d (Some area) = Err (Limit (area_place area))
within d None = Ok d

-- what adding a line gives: the contents with it, or the fault
abbrev pub adding : Contents → List ℕ → Result Contents CallFault
adding d line = then Line (read_clause line) (λ c. within (extended d line c) (passed (extended d line c)))

-- the reply, and the contents after it: as they were where the line is refused
abbrev pub reply : {X : Type 0} → Result Contents CallFault → X → Result X CallFault
reply (Ok d) x = Ok x
reply (Err e) x = Err e

abbrev pub after : Contents → Result Contents CallFault → Contents
after d (Ok e) = e
after d (Err e) = d
