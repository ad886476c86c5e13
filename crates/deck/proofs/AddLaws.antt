-- What adding a line gives.
use Rattle.std.proofs.Common.{take, take_at, true, ◌≡◌, ℕ, ◌+◌, ◌<◌, ◌≤◌, List, [], length, Ok, Err, sym, refl, ap, ◌∙◌, subst, ap₂, arith, length-append}
use Rattle.std.specs.Prelude.{Result, is_err}
use Rattle.std.proofs.lemmas.List.{length-map}
use Rattle.std.proofs.lemmas.Bool.Decides.{nat_tests}
use Rattle.horn.specs.Terms.{Name, Term, Terms, var, node, nil, cons, count}
use Rattle.horn.specs.Clauses.{Clause, Written, blanks, apart, aparts}
use Rattle.horn.specs.Weights.{own, weigh, weighs, under, load, clause_weight}
use Rattle.horn.specs.Notation.{wordss}
use Rattle.horn.proofs.Blanks.{written_aparts}
use Rattle.lines.specs.declared.kind.Kind.TheVariants.{Clause as ClauseLine}
use Rattle.lines.specs.declared.faults.CallFault.TheVariants.{Limit}
use Rattle.lines.specs.Grammar.{Proper}
use Rattle.lines.specs.Clauses.{clause_from, read_clause, SpellsClause, OneReading}
use Rattle.symbol_table.specs.Numbers.{note_words}
use Rattle.symbol_table.specs.Symbols.{Signature}
use Rattle.symbol_table.specs.Noting.{Begins}
use Rattle.lines.specs.declared.faults.CallFault.{CallFault}
use Rattle.deck.specs.declared.state.Deck.{Deck}
use Rattle.deck.specs.Held.{contents}
use Rattle.deck.specs.Decks.{reply, after, Contents, words_in, extended, adding}

-- a `_` told apart weighs the same
own_apart : (n : ℕ) (ts : Terms Name) → own (aparts n ts) ≡ own ts
own_apart n nil = refl
own_apart n (cons t ts) = refl

mutual
  weigh_apart : (n : ℕ) (t : Term Name) → weigh (apart n t) ≡ weigh t
  weigh_apart n (var v) = refl
  weigh_apart n (node f ts) = ap₂ ◌+◌ (own_apart n ts) (weighs_apart n ts)

  weighs_apart : (n : ℕ) (ts : Terms Name) → weighs (aparts n ts) ≡ weighs ts
  weighs_apart n nil = refl
  weighs_apart n (cons t ts) = ap₂ ◌+◌ (weigh_apart n t) (weighs_apart (n + blanks t) ts)

under_apart : (n : ℕ) (t : Term Name) → under (apart n t) ≡ under t
under_apart n (var v) = refl
under_apart n (node f ts) = weighs_apart n ts

load_apart : (p n : ℕ) (ts : Written) → load p (aparts n ts) ≡ load p ts
load_apart p n nil = refl
load_apart p n (cons t ts) = ap₂ (λ a b. p + (a + b)) (under_apart n t) (load_apart 1 (n + blanks t) ts)

-- the clause that an accepted line spells
pub record Spelt (line : List ℕ) (ts : Written) : Type 0 where
  pub clause : Clause
  pub is : clause_from ts ≡ Ok clause
  pub words : words_in clause ≡ wordss ts []
  pub weight : clause_weight clause ≡ load 0 ts
  pub proper : Proper ClauseLine ts
  pub short : length line ≤ 512

pub spelt : (line : List ℕ) (ts : Written) → 1 ≤ count ts → OneReading (SpellsClause line) (clause_from ts) → Spelt line ts
spelt line nil some one = absurd (omega arith)
spelt line (cons h gs) some one =
    let c : Clause = record { head = apart 0 h; goals = aparts (0 + blanks h) gs } in
    let same = written_aparts 0 (cons h gs) in
    record {
      clause = c;
      is = refl;
      words = ap (λ us. wordss us []) same;
      weight = load_apart 0 0 (cons h gs);
      proper = subst (Proper ClauseLine) same ((one c).0 refl).reading.proper;
      short = (let r = ((one c).0 refl).reading in omega (arith, r.proper.short, ap length r.spelling));
    }

-- the replies to a line that spells the clause c
module _ (d : Contents) (line : List ℕ) (c : Clause) (h : Ok c ≡ read_clause line) (lines : length d.lines < 256) where
  pub adding_2 : 256 < length (note_words d.symbols (words_in c)) → adding d line ≡ Err (Limit 2)
  adding_2 l = rw (← h) (grind (arith, nat_tests, length-append))

  pub adding_3 : length (note_words d.symbols (words_in c)) ≤ 256 → 8192 < d.words + (clause_weight c + 2) → adding d line ≡ Err (Limit 3)
  adding_3 s l = rw (← h) (grind (arith, nat_tests, length-append))

  pub adding_ok : length (note_words d.symbols (words_in c)) ≤ 256 → d.words + (clause_weight c + 2) ≤ 8192 → adding d line ≡ Ok (extended d line c)
  adding_ok s l = rw (← h) (grind (arith, nat_tests, length-append))

pub lines_long : (d : Deck) → length (contents d).lines ≡ length d.lines.items
lines_long d = simp length-map

-- what a refusal leaves
pub refused : (d : Contents) (r : Result Contents CallFault) (answer : Result (Unit {0}) CallFault) → answer ≡ reply r tt → is_err answer ≡ true → after d r ≡ d
refused d (Ok e) answer p q = cc
refused d (Err e) answer p q = refl

-- the symbols as they were
pub begins_take : {a b : Signature} (n : ℕ) → Begins a b → n ≡ length a → take n b ≡ a
begins_take {a} n p e = ap (take n) p.is ∙ take_at a p.more n (sym e)

-- contents with the same parts
pub holding : (d e : Contents) → d.lines ≡ e.lines → d.symbols ≡ e.symbols → d.words ≡ e.words → d ≡ e
holding d e p q r = rw (p, q, r) refl
