-- What a writer has appended, of the terms that its words spell.
use Rattle.std.specs.Prelude.{◌≡◌, ℕ, List, [], ◌++◌, Ok, Err, Result}
use Rattle.horn.specs.Terms.{Name, Term, count}
use Rattle.horn.specs.Clauses.{Written}
use Rattle.horn.specs.Notation.{Word, words, wordss}
use Rattle.lines.specs.declared.kind.Kind.{Kind}
use Rattle.lines.specs.declared.kind.Kind.TheVariants.{Clause as ClauseLine, Query as QueryLine}
use Rattle.lines.specs.declared.line.Line.{Line}
use Rattle.lines.specs.declared.faults.LineFault.{LineFault}
use Rattle.lines.specs.Said.{terms_of}
use Rattle.lines.specs.Refusals.{line_refusal}
use Rattle.prolog.specs.declared.verdict.Verdict.{Verdict}
use Rattle.prolog.specs.declared.verdict.Verdict.TheVariants.{Clause, Query, Refused}
use Rattle.prolog.specs.Prolog.{term, listed, rule_text, goal_text}
use Rattle.prolog.specs.Proofread.{refused_text}

-- the words begin with a term, its text is appended, and the rest is what follows it
abbrev pub TermPut : List Word → List Word → List ℕ → List ℕ → Type 0
TermPut ws rest before after = (t : Term Name) (us : List Word) → ws ≡ words t us → (after ≡ before ++ term t) × (rest ≡ us)

-- the same of n terms
abbrev pub ListPut : ℕ → List Word → List Word → List ℕ → List ℕ → Type 0
ListPut n ws rest before after = (ts : Written) (us : List Word) → n ≡ count ts → ws ≡ wordss ts us → (after ≡ before ++ listed ts) × (rest ≡ us)

-- the words are n terms, and their text is appended
abbrev pub AllPut : (Written → List ℕ) → ℕ → List Word → List ℕ → List ℕ → Type 0
AllPut text n ws before after = (ts : Written) → n ≡ count ts → ws ≡ wordss ts [] → after ≡ before ++ text ts

-- what an accepted line is, and its text
abbrev pub kind_verdict : Kind → Verdict
kind_verdict ClauseLine = Clause
kind_verdict QueryLine = Query

abbrev pub kind_text : Kind → Written → List ℕ
kind_text ClauseLine ts = rule_text ts
kind_text QueryLine ts = goal_text ts

-- what the line of this number is by what it was read as, and its text
abbrev pub read_verdict : Result Line LineFault → Verdict
read_verdict (Ok l) = kind_verdict l.kind
read_verdict (Err e) = Refused

abbrev pub read_text : ℕ → Result Line LineFault → List ℕ
read_text number (Ok l) = kind_text l.kind (terms_of l)
read_text number (Err e) = refused_text number (line_refusal e)
