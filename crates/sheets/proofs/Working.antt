-- The worked cases, by the moves of a search.
use Rattle.std.proofs.Common.{◌≡◌, ℕ, suc, ◌+◌, cond, eqb, List, [], ◌∷◌, Ok, codes, refl, ap, arith, lit<, lit≤}
use Rattle.std.specs.Fmt.{digits}
use Rattle.horn.specs.Terms.{Name, Term, Terms, var, node, nil, cons, eval, evals}
use Rattle.horn.specs.Clauses.{Variable, named, blank, Query}
use Rattle.horn.specs.Equations.{Deck, Valuation, same_name}
use Rattle.horn.specs.Answers.{Values, Instance}
use Rattle.horn.specs.Walk.{Tree, deck_tree, Posable}
use Rattle.horn.specs.Search.{Moves, Next}
use Rattle.horn.specs.Transcript.{Prints, answer, end}
use Rattle.lines.specs.declared.faults.FieldFault.TheVariants.{Form}
use Rattle.lines.specs.declared.faults.LineFault.TheVariants.{Field, Missing, LeftOver, Variable as VariableGoal}
use Rattle.lines.specs.Clauses.{read_query}
use Rattle.sheets.specs.Sheets.{deck_of, Printed}
use Rattle.sheets.specs.Worked.{Worked, ample}
use Rattle.sheets.proofs.Cases.{constant, pairs, pairing, nested, twin, doubled, single, every, both, loops, looping}
use Rattle.horn.proofs.TermLaws.{evals_off}
use Rattle.horn.proofs.Following.{grows, past_last, no_goals}
use Rattle.horn.proofs.Placing.{moves}
use Rattle.sheets.proofs.Looping.{endless, short}

-- the moves of a case
moving : (deck : Deck) (q : Query) → Posable q → Moves (deck_tree deck q) ample
moving deck q h = moves (deck_tree deck q) (grows deck q h) ample

-- the very next clause
following : (t : Tree) (here : List ℕ) (c : ℕ) → Next t here c (c + 1)
following t here c = (omega arith, λ d lo hi w. omega arith)

-- an instance, by the query's terms
by_terms : (q : Query) (θ σ : Values) (ρ : ℕ → Term ℕ) → evals q σ ≡ evals q (λ v. eval (θ v) ρ) → Instance q θ σ
by_terms q θ σ ρ e = (ρ, evals_off q σ (λ v. eval (θ v) ρ) e)

-- values for some names, and any other variable as it is
abbrev binds : List (Name × Term ℕ) → Values
binds [] v = var 0
binds (b ∷ bs) (blank n) = var 0
binds (b ∷ bs) (named v) = cond (same_name b.0 v) b.1 (binds bs (named v))

repeated : Prints doubled single ample 0 (codes "A,1,X,a" ∷ codes "A,1,X,a" ∷ codes "N,2,2" ∷ [])
unfolding digits
repeated =
    let t = deck_tree doubled single in
    let m = moving doubled single (record { some = λ e. let z : ◌≡◌ {A = ℕ} 0 1 = cc in omega arith; light = lit≤ tt }) in
    let θ : Values = λ v. constant (codes "a") in
    let ρ : Valuation = λ v. constant (codes "a") in
    let one = m.hit [] 0 1 0 0 (record { placed = m.start; next = (following t [] 0); passes = (ρ, (refl, tt)) }) (record { fueled = lit< tt; short = lit≤ tt; light = lit≤ tt }) (ρ, (refl, tt), refl) in
    let back₁ = m.back [] 1 0 1 1 one.0 (no_goals doubled single (1 ∷ []) 0 _ refl refl) in
    let two = m.hit [] 1 2 1 1 (record { placed = back₁; next = (following t [] 1); passes = (ρ, (refl, tt)) }) (record { fueled = lit< tt; short = lit≤ tt; light = lit≤ tt }) (ρ, (refl, tt), refl) in
    let back₂ = m.back [] 2 0 2 2 two.0 (no_goals doubled single (2 ∷ []) 0 _ refl refl) in
    let over = m.finish 2 2 2 back₂ (past_last doubled single [] 2 (lit≤ tt)) in
    answer (1 ∷ []) 1 one.1 (θ, record { solves = (ρ, (refl, tt), λ v. refl); general = λ σ k. by_terms single θ σ var (let e = k.1.0 in let x = k.2 (named (codes "X")) in cc) }, refl)
    (answer (2 ∷ []) 2 two.1 (θ, record { solves = (ρ, (refl, tt), λ v. refl); general = λ σ k. by_terms single θ σ var (let e = k.1.0 in let x = k.2 (named (codes "X")) in cc) }, refl)
    (end 2 over))

-- a term is no part of itself
abbrev mutual
  size : Term ℕ → ℕ
  size (var v) = 0
  size (node f ts) = suc (sizes ts)

  sizes : Terms ℕ → ℕ
  sizes nil = 0
  sizes (cons t ts) = size t + sizes ts

infinite : Prints nested twin ample 0 (codes "N,0,0" ∷ [])
unfolding digits
infinite =
    let t = deck_tree nested twin in
    let m = moving nested twin (record { some = λ e. let z : ◌≡◌ {A = ℕ} 0 1 = cc in omega arith; light = lit≤ tt }) in
    let failed = m.fail [] 0 1 0 0 m.start (following t [] 0) (λ w.
    let e = w.1.0 in
    let x : Term ℕ = w.0 (1, named (codes "X")) in
    let f : x ≡ node (codes "f") (cons x nil) = cc in
    omega (arith, ap size f)) in
    end 0 (m.finish 1 0 0 failed (past_last nested twin [] 1 (lit≤ tt)))

unbound : Prints every both ample 0 (codes "A,1,B,_1" ∷ codes "N,1,1" ∷ [])
unfolding digits
unbound =
    let t = deck_tree every both in
    let m = moving every both (record { some = λ e. let z : ◌≡◌ {A = ℕ} 0 1 = cc in omega arith; light = lit≤ tt }) in
    let θ : Values = λ v. var 0 in
    let B : Variable = named (codes "B") in
    let ρ : Valuation = λ v. cond (eqb v.0 0) (var 0) (node (codes "f") (cons (var 0) (cons (var 0) nil))) in
    let one = m.hit [] 0 1 0 0 (record { placed = m.start; next = (following t [] 0); passes = (ρ, (refl, tt)) }) (record { fueled = lit< tt; short = lit≤ tt; light = lit≤ tt }) (ρ, (refl, tt), refl) in
    let back₁ = m.back [] 1 0 1 1 one.0 (no_goals every both (1 ∷ []) 0 _ refl refl) in
    let over = m.finish 1 1 1 back₁ (past_last every both [] 1 (lit≤ tt)) in
    answer (1 ∷ []) 1 one.1 (θ, record { solves = (ρ, (refl, tt), λ v. refl); general = λ σ k. by_terms both θ σ (λ x. σ B) refl }, refl)
    (end 1 over)

-- the letter and its half form
abbrev answered : Name → Name → Values
answered letter part = binds ((codes "G", constant letter) ∷ (codes "L", node (codes "lig") (cons (constant part) (cons (constant (codes "ya")) nil))) ∷ [])

-- and what the entered clauses' variables are
abbrev solving : Name → Name → Valuation
solving letter part a = cond (eqb a.0 0) (answered letter part a.1) (binds ((codes "X", constant letter) ∷ (codes "Y", constant (codes "ya")) ∷ (codes "H", constant part) ∷ []) a.1)

ligatures : Prints pairs pairing ample 0 (codes "A,2,G,ka,L,lig/2,ka.half,ya" ∷ codes "A,2,G,ta,L,lig/2,ta.half,ya" ∷ codes "N,2,3" ∷ [])
unfolding digits
ligatures =
    let t = deck_tree pairs pairing in
    let m = moving pairs pairing (record { some = λ e. let z : ◌≡◌ {A = ℕ} 0 1 = cc in omega arith; light = lit≤ tt }) in
    let G : Variable = named (codes "G") in
    let L : Variable = named (codes "L") in
    let ka : Valuation = solving (codes "ka") (codes "ka.half") in
    let ta : Valuation = solving (codes "ta") (codes "ta.half") in
    let s₁ = m.fail [] 0 1 0 0 m.start (following t [] 0) (λ w. w) in
    let s₂ = m.fail [] 1 2 0 0 s₁ (following t [] 1) (λ w. w) in
    let s₃ = m.enter [] 2 3 0 0 (record { placed = s₂; next = (following t [] 2); passes = (ka, (refl, tt)) }) (record { fueled = lit< tt; short = lit≤ tt; light = lit≤ tt }) (λ w. let e = w.2 in let z : ◌≡◌ {A = ℕ} 0 1 = cc in omega arith) in
    let one = m.hit (3 ∷ []) 0 1 0 1 (record { placed = s₃; next = (following t (3 ∷ []) 0); passes = (ka, (refl, (refl, tt))) }) (record { fueled = lit< tt; short = lit≤ tt; light = lit≤ tt }) (ka, (refl, (refl, tt)), refl) in
    let s₄ = m.back (3 ∷ []) 1 0 1 2 one.0 (no_goals pairs pairing (3 ∷ 1 ∷ []) 0 _ refl refl) in
    let two = m.hit (3 ∷ []) 1 2 1 2 (record { placed = s₄; next = (following t (3 ∷ []) 1); passes = (ta, (refl, (refl, tt))) }) (record { fueled = lit< tt; short = lit≤ tt; light = lit≤ tt }) (ta, (refl, (refl, tt)), refl) in
    let s₅ = m.back (3 ∷ []) 2 0 2 3 two.0 (no_goals pairs pairing (3 ∷ 2 ∷ []) 0 _ refl refl) in
    let s₆ = m.fail (3 ∷ []) 2 3 2 3 s₅ (following t (3 ∷ []) 2) (λ w. w) in
    let s₇ = m.back [] 3 3 2 3 s₆ (past_last pairs pairing (3 ∷ []) 3 (lit≤ tt)) in
    let over = m.finish 3 2 3 s₇ (past_last pairs pairing [] 3 (lit≤ tt)) in
    answer (3 ∷ 1 ∷ []) 2 one.1 (
      answered (codes "ka") (codes "ka.half"),
      record {
        solves = (ka, (refl, (refl, tt)), λ v. refl);
        general = λ σ k. by_terms pairing (answered (codes "ka") (codes "ka.half")) σ var (let e = k.1.0 in let f = k.1.1.0 in let g = k.2 G in let l = k.2 L in cc);
      },
      refl,
    )
    (answer (3 ∷ 2 ∷ []) 3 two.1 (
      answered (codes "ta") (codes "ta.half"),
      record {
        solves = (ta, (refl, (refl, tt)), λ v. refl);
        general = λ σ k. by_terms pairing (answered (codes "ta") (codes "ta.half")) σ var (let e = k.1.0 in let f = k.1.1.0 in let g = k.2 G in let l = k.2 L in cc);
      },
      refl,
    )
    (end 3 over))

-- the lines of a case are read as its clauses and its query
sheet : {lines : List (List ℕ)} {line : List ℕ} {fuel : ℕ} {outs : List (List ℕ)} (deck : Deck) (query : Query) → deck_of lines ≡ Ok deck → read_query line ≡ Ok query → Prints deck query fuel 0 outs → Printed lines line fuel outs
sheet deck query c q h = record { deck = deck; query = query; clauses_read = c; query_read = q; prints = h }

pub worked : Worked
unfolding digits
worked = record {
  ligatures = sheet pairs pairing refl refl ligatures;
  infinite = sheet nested twin refl refl infinite;
  repeated = sheet doubled single refl refl repeated;
  unbound = sheet every both refl refl unbound;
  endless = sheet loops looping refl refl endless;
  short = sheet loops looping refl refl short;
  variable_head = (VariableGoal 3, refl, refl);
  argument_missing = (Missing 5, refl, refl);
  field_over = (LeftOver 5, refl, refl);
  arity_over = (Field (Form 3), refl, refl);
}
