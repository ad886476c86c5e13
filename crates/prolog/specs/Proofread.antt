-- What stands for a line of a deck, and what the line is.
use Rattle.std.specs.Prelude.{ℕ, Bool, false, cond, List, [], ◌∷◌, ◌++◌, Ok, Err, codes, decimal, Result, ◌==◌}
use Rattle.lines.specs.declared.faults.LineFault.{LineFault}
use Rattle.lines.specs.declared.refusals.Refusal.{Refusal}
use Rattle.lines.specs.Clauses.{read_clause, read_query}
use Rattle.lines.specs.Refusals.{line_refusal, refusal_line}
use Rattle.prolog.specs.declared.verdict.Verdict.{Verdict}
use Rattle.prolog.specs.declared.verdict.Verdict.TheVariants.{Clause, Query, Refused}
use Rattle.prolog.specs.Prolog.{clause_text, query_text}

-- a line that begins with `Q` is read as a query, every other as a clause
abbrev pub as_query : List ℕ → Bool
as_query [] = false
as_query (b ∷ bs) = b == 81

-- the refusal, in a comment with the line's number
abbrev pub refused_text : ℕ → Refusal → List ℕ
refused_text number r = codes "% " ++ (decimal number ++ (codes ": " ++ refusal_line r))

-- the text of what was read, or the refusal
abbrev pub text_of : {X : Type 0} → ℕ → (X → List ℕ) → Result X LineFault → List ℕ
text_of number text (Ok x) = text x
text_of number text (Err e) = refused_text number (line_refusal e)

abbrev pub verdict_in : {X : Type 0} → Verdict → Result X LineFault → Verdict
verdict_in v (Ok x) = v
verdict_in v (Err e) = Refused

-- the text for the line of this number
abbrev pub line_text : ℕ → List ℕ → List ℕ
line_text number line = cond (as_query line) (text_of number query_text (read_query line)) (text_of number clause_text (read_clause line))

-- the same with its end
abbrev pub proof_text : ℕ → List ℕ → List ℕ
proof_text number line = line_text number line ++ 10 ∷ []

abbrev pub verdict_of : List ℕ → Verdict
verdict_of line = cond (as_query line) (verdict_in Query (read_query line)) (verdict_in Clause (read_clause line))
