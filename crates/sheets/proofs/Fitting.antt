-- Accepted lines give clauses whose heads and goals are no variables, and a query that has a goal and is light.
use Rattle.std.proofs.Common.{◌≡◌, ℕ, ◌+◌, List, [], ◌∷◌, Ok, refl, ap, ap₂, arith}
use Rattle.std.specs.List.{AllByRecursion}
use Rattle.horn.specs.Terms.{Term, Terms, var, node, nil, cons, count, eval}
use Rattle.horn.specs.Clauses.{Variable, Clause, Callable, Callables, called, written}
use Rattle.horn.specs.Weights.{own, weigh, weighs, under, load}
use Rattle.horn.specs.Equations.{Deck, Proper}
use Rattle.lines.specs.Clauses.{read_clause}
use Rattle.lines.proofs.ClauseLaws.{one_clause, one_query}
use Rattle.sheets.specs.Theorems.{LinesFit}
use Rattle.sheets.proofs.Decks.{each_clause}

callable_off : (t : Term Variable) → Callable (eval t (λ v. var (called v))) → Callable t
callable_off (var v) h = h
callable_off (node f ts) h = tt

callables_off : (ts : Terms Variable) → Callables (written ts) → Callables ts
callables_off nil h = tt
callables_off (cons t ts) h = (callable_off t h.0, callables_off ts h.1)

-- terms weigh what they weigh as they are written
own_written : (ts : Terms Variable) → own (written ts) ≡ own ts
own_written nil = refl
own_written (cons t ts) = refl

mutual
  weigh_written : (t : Term Variable) → weigh (eval t (λ v. var (called v))) ≡ weigh t
  weigh_written (var v) = refl
  weigh_written (node f ts) = ap₂ (λ (m n : ℕ). m + n) (own_written ts) (weighs_written ts)

  weighs_written : (ts : Terms Variable) → weighs (written ts) ≡ weighs ts
  weighs_written nil = refl
  weighs_written (cons t ts) = ap₂ (λ (m n : ℕ). m + n) (weigh_written t) (weighs_written ts)

under_written : (t : Term Variable) → under (eval t (λ v. var (called v))) ≡ under t
under_written (var v) = refl
under_written (node f ts) = weighs_written ts

load_written : (price : ℕ) (ts : Terms Variable) → load price (written ts) ≡ load price ts
load_written price nil = refl
load_written price (cons t ts) = ap₂ (λ (m n : ℕ). price + (m + n)) (under_written t) (load_written 1 ts)

clause_callable : (line : List ℕ) (c : Clause) → read_clause line ≡ Ok c → Callable c.head × Callables c.goals
clause_callable line c e =
    let h = ((one_clause line c).0 e).reading.proper.callable in
    (callable_off c.head h.0, callables_off c.goals h.1)

proper : (deck : Deck) → AllByRecursion (λ c. Callable c.head × Callables c.goals) deck → Proper deck
proper [] h = tt
proper (c ∷ cs) h = (h.0.0, h.0.1, proper cs h.1)

pub lines_fit : LinesFit
lines_fit lines line deck q d e =
    let h = ((one_query line q).0 e).reading.proper in (
      proper deck (each_clause (λ c. Callable c.head × Callables c.goals) clause_callable lines deck d),
      callables_off q h.callable,
      record { some = λ n. omega (arith, h.some, ap (λ ts. count (written ts)) n); light = omega (arith, h.light, load_written 1 q) },
    )
