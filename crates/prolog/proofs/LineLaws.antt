-- What stands for a line is what stands for what it was read as.
use Rattle.std.proofs.Common.{◌≡◌, ℕ, ◌+◌, true, false, ◌==◌, List, [], ◌∷◌, IfOk, Ok, Err, Result, sym, refl, ap, ◌∙◌, arith}
use Rattle.std.proofs.lemmas.Bool.{cond-true, cond-false}
use Rattle.std.proofs.lemmas.Bool.Decides.{nat_tests}
use Rattle.std.specs.List.{starts_with}
use Rattle.lines.specs.declared.kind.Kind.TheVariants.{Clause as ClauseLine, Query as QueryLine}
use Rattle.lines.specs.declared.line.Line.{Line}
use Rattle.lines.specs.declared.faults.LineFault.{LineFault}
use Rattle.horn.specs.Terms.{nil, cons, count}
use Rattle.horn.specs.Clauses.{Written}
use Rattle.horn.proofs.Blanks.{written_aparts}
use Rattle.lines.specs.Clauses.{clause_from, read_clause, read_query}
use Rattle.lines.proofs.Counts.{counted}
use Rattle.lines.specs.Said.{terms_of, said_clause, said_query}
use Rattle.prolog.specs.declared.verdict.Verdict.TheVariants.{Clause, Query}
use Rattle.prolog.specs.Prolog.{rule_text, goal_text, clause_text, query_text}
use Rattle.prolog.specs.Proofread.{as_query, text_of, verdict_in, line_text, verdict_of}
use Rattle.prolog.specs.Puts.{kind_verdict, kind_text, read_verdict, read_text}

pub starts_query : (line : List ℕ) → starts_with (λ a b. a == b) line (81 ∷ []) ≡ as_query line
starts_query [] = refl
starts_query (b ∷ bs) = grind (arith, nat_tests)

module _ (number : ℕ) where
  clause_told : (r : Result Line LineFault) → IfOk r (λ l. l.kind ≡ ClauseLine) → (read_verdict r ≡ verdict_in Clause (said_clause r)) × (read_text number r ≡ text_of number clause_text (said_clause r))
  clause_told (Ok l) h = go (terms_of l) (counted ClauseLine l h).goals
    where
      go : (ts : Written) → 1 + l.goals ≡ count ts → (kind_verdict l.kind ≡ verdict_in Clause (clause_from ts)) × (kind_text l.kind ts ≡ text_of number clause_text (clause_from ts))
      go nil size = absurd (omega arith)
      go (cons t ts) size = (ap kind_verdict h, ap (λ k. kind_text k (cons t ts)) h ∙ ap rule_text (sym (written_aparts 0 (cons t ts))))
  clause_told (Err e) h = (refl, refl)

  query_told : (r : Result Line LineFault) → IfOk r (λ l. l.kind ≡ QueryLine) → (read_verdict r ≡ verdict_in Query (said_query r)) × (read_text number r ≡ text_of number query_text (said_query r))
  query_told (Ok l) h = (ap kind_verdict h, ap (λ k. kind_text k (terms_of l)) h ∙ ap goal_text (sym (written_aparts 0 (terms_of l))))
  query_told (Err e) h = (refl, refl)

  module _ (line : List ℕ) (r : Result Line LineFault) where
    pub record Told : Type 0 where
      pub verdict : read_verdict r ≡ verdict_of line
      pub text : read_text number r ≡ line_text number line

    pub told_query : as_query line ≡ true → IfOk r (λ l. l.kind ≡ QueryLine) → said_query r ≡ read_query line → Told
    told_query q h e =
        let t = query_told r h in
        record {
          verdict = t.0 ∙ ap (verdict_in Query) e ∙ sym (cond-true (as_query line) _ _ q);
          text = t.1 ∙ ap (text_of number query_text) e ∙ sym (cond-true (as_query line) _ _ q);
        }

    pub told_clause : as_query line ≡ false → IfOk r (λ l. l.kind ≡ ClauseLine) → said_clause r ≡ read_clause line → Told
    told_clause q h e =
        let t = clause_told r h in
        record {
          verdict = t.0 ∙ ap (verdict_in Clause) e ∙ sym (cond-false (as_query line) _ _ q);
          text = t.1 ∙ ap (text_of number clause_text) e ∙ sym (cond-false (as_query line) _ _ q);
        }
