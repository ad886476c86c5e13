-- An accepted line spells one clause or query, and what is read is it.
use Rattle.std.proofs.Common.{◌≡◌, ℕ, ◌+◌, List, Ok, Err, Result, sym, refl, ap, ◌∙◌, subst, ap₂, arith}
use Rattle.lines.specs.declared.kind.Kind.TheVariants.{Clause as ClauseLine, Query as QueryLine}
use Rattle.lines.specs.declared.faults.LineFault.{LineFault}
use Rattle.lines.specs.declared.line.Line.{Line}
use Rattle.horn.specs.Terms.{Term, Terms, var, nil, cons, eval}
use Rattle.horn.specs.Clauses.{Variable, Clause, Query, Written, called, written, blanks, apart, aparts}
use Rattle.horn.proofs.Blanks.{written_aparts}
use Rattle.lines.specs.Lines.{then, read}
use Rattle.lines.specs.Grammar.{Reading}
use Rattle.lines.specs.Clauses.{clause_from, read_clause, read_query, Fresh, SpellsClause, SpellsQuery, OneReading}
use Rattle.lines.specs.Said.{said, said_clause, said_query}
use Rattle.lines.proofs.Readings.{reading, read_of}

abbrev whole : Term Variable → Terms Variable → Result Clause LineFault
whole h gs = Ok (record { head = h; goals = gs })

module _ (line : List ℕ) where
  read_clause_lem : (r : Result Written LineFault) → read ClauseLine line ≡ r → (c : Clause) → then (λ e. e) r clause_from ≡ Ok c → SpellsClause line c
  read_clause_lem (Err e) q c h = let z : ◌≡◌ {A = ℕ} 0 1 = cc in absurd (omega arith)
  read_clause_lem (Ok nil) q c h = let z : ◌≡◌ {A = ℕ} 0 1 = cc in absurd (omega arith)
  read_clause_lem (Ok (cons t ts)) q c h =
      let is : ◌≡◌ {A = Clause} (record { head = apart 0 t; goals = aparts (0 + blanks t) ts }) c = cc in
      let same = written_aparts 0 (cons t ts) in
      subst (SpellsClause line) is (record { fresh = ap (aparts 0) same; reading = subst (Reading ClauseLine line) (sym same) (reading ClauseLine line (cons t ts) q) })

  clause_read : (c : Clause) → SpellsClause line c → read_clause line ≡ Ok c
  clause_read c s =
      let f : Fresh (cons c.head c.goals) = s.fresh in
      let h = eval c.head (λ v. var (called v)) in
      let same_head : apart 0 h ≡ c.head = cc in
      let same_goals : aparts (0 + blanks h) (written c.goals) ≡ c.goals = cc in
      ap (λ r. then (λ e. e) r clause_from) (read_of ClauseLine line (written (cons c.head c.goals)) s.reading)
      ∙ ap₂ whole same_head same_goals

  pub one_clause : OneReading (SpellsClause line) (read_clause line)
  one_clause c = (read_clause_lem (read ClauseLine line) refl c, clause_read c)

  read_query_lem : (r : Result Written LineFault) → read QueryLine line ≡ r → (q : Query) → then (λ e. e) r (λ ts. Ok (aparts 0 ts)) ≡ Ok q → SpellsQuery line q
  read_query_lem (Err e) p q h = let z : ◌≡◌ {A = ℕ} 0 1 = cc in absurd (omega arith)
  read_query_lem (Ok ts) p q h =
      let is : aparts 0 ts ≡ q = cc in
      let same = written_aparts 0 ts in
      subst (SpellsQuery line) is (record { fresh = ap (aparts 0) same; reading = subst (Reading QueryLine line) (sym same) (reading QueryLine line ts p) })

  pub one_query : OneReading (SpellsQuery line) (read_query line)
  one_query q = (read_query_lem (read QueryLine line) refl q, λ s. ap (λ r. then (λ e. e) r (λ ts. Ok (aparts 0 ts))) (read_of QueryLine line (written q) s.reading) ∙ ap Ok s.fresh)

-- what the reader gives, as clause and as query
pub said_clause_lem : (r : Result Line LineFault) (line : List ℕ) → said r ≡ read ClauseLine line → said_clause r ≡ read_clause line
said_clause_lem (Ok l) line e = ap (λ r. then (λ e. e) r clause_from) e
said_clause_lem (Err x) line e = ap (λ r. then (λ e. e) r clause_from) e

pub said_query_lem : (r : Result Line LineFault) (line : List ℕ) → said r ≡ read QueryLine line → said_query r ≡ read_query line
said_query_lem (Ok l) line e = ap (λ r. then (λ e. e) r (λ ts. Ok (aparts 0 ts))) e
said_query_lem (Err x) line e = ap (λ r. then (λ e. e) r (λ ts. Ok (aparts 0 ts))) e
