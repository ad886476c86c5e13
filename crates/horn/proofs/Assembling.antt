-- Instances are solutions of the equations: the terms of each entry make up one valuation.
use Rattle.std.proofs.Common.{◌≡◌, ℕ, zero, suc, ◌+◌, ◌≤◌, true, cond, eqb, [], ◌∷◌, Some, None, sym, refl, ap, ◌∙◌, subst, ap₂, arith}
use Rattle.std.proofs.lemmas.Bool.{cond-true, cond-false, eq-eqb, ne_eqb}
use Rattle.horn.specs.Terms.{Term, Terms, var, node, nil, cons, join, eval, evals}
use Rattle.horn.specs.Clauses.{Variable, Clause, Query, Callable, Callables}
use Rattle.horn.specs.Paths.{Path}
use Rattle.horn.specs.Equations.{Deck, Apart, Standing, Valuation, Solves, clause_at, renameds, same_symbol, taking, taken, follow, asked, Proper}
use Rattle.horn.specs.Instances.{Leads, rule_at, clause_rule, head_name, program_of}
use Rattle.horn.proofs.TermLaws.{eval_eval, evals_evals, each, uncons, callables_join, meet}
use Rattle.horn.proofs.Leading.{part, body}

-- the clause of a rule that relates something
record Found (deck : Deck) (n : ℕ) (ts gs : Terms ℕ) : Type 0 where
  pub clause : Clause
  pub at : clause_at deck n ≡ Some clause
  pub name : (rule_at (program_of deck) n).name ≡ head_name clause.head
  pub relates : (clause_rule clause).relates ts gs
  pub head : Callable clause.head
  pub goals : Callables clause.goals

found : (deck : Deck) → Proper deck → (n : ℕ) (ts gs : Terms ℕ) → (rule_at (program_of deck) n).relates ts gs → Found deck n ts gs
found [] h n ts gs r = absurd r
found (d ∷ deck) h zero ts gs r = absurd r
found (d ∷ deck) h (suc zero) ts gs r = record { clause = d; at = refl; name = refl; relates = r; head = h.0; goals = h.1 }
found (d ∷ deck) h (suc (suc n)) ts gs r =
    let k = found deck h.2 (suc n) ts gs r in
    record { clause = k.clause; at = k.at; name = k.name; relates = k.relates; head = k.head; goals = k.goals }

-- the entries up to k have the same terms
abbrev pub Agree : ℕ → Valuation → Valuation → Type 0
Agree k ρ ρ' = (j : ℕ) → j ≤ k → (v : Variable) → ρ (j, v) ≡ ρ' (j, v)

-- goals and equations speak of the entries so far only
pub record Settled (s : Standing) : Type 0 where
  pub goals_same : (ρ ρ' : Valuation) → Agree s.entries ρ ρ' → evals s.goals ρ ≡ evals s.goals ρ'
  pub equations_same : (ρ ρ' : Valuation) → Agree s.entries ρ ρ' → Solves ρ s.equations → Solves ρ' s.equations
  pub callable : Callables s.goals

pub settled_asked : (q : Query) → Callables q → Settled (asked q)
settled_asked q h = record {
  goals_same = λ ρ ρ' a. evals_evals q (λ v. var (0, v)) ρ ∙ ap (evals q) (each (λ v. a 0 (omega arith) v)) ∙ sym (evals_evals q (λ v. var (0, v)) ρ');
  equations_same = λ ρ ρ' a k. tt;
  callable = callable;
}
  where
    callable : Callables (renameds 0 q)
    callable = subst Callables (join_nil (renameds 0 q)) (callables_join q nil (λ v. var (0, v)) h tt)
      where
        join_nil : (ts : Terms Apart) → join ts nil ≡ ts
        join_nil nil = refl
        join_nil (cons t ts) = ap (cons t) (join_nil ts)

module _ (s : Standing) (settled : Settled s) (g : Term Apart) (gs : Terms Apart) (are : s.goals ≡ cons g gs) (c : Clause) where
  both_same : (ρ ρ' : Valuation) → Agree s.entries ρ ρ' → (eval g ρ ≡ eval g ρ') × (evals gs ρ ≡ evals gs ρ')
  both_same ρ ρ' a =
      let k : cons (eval g ρ) (evals gs ρ) ≡ cons (eval g ρ') (evals gs ρ') = subst (λ x. evals x ρ ≡ evals x ρ') are (settled.goals_same ρ ρ' a) in
      (cc, cc)

  settled_on : Callables c.goals → Settled (taking s g gs c)
  settled_on h = record {
    goals_same = λ ρ ρ' a. body s g gs c ρ ∙ ap₂ join (ap (evals c.goals) (here ρ ρ' a)) (both_same ρ ρ' (less ρ ρ' a)).1 ∙ sym (body s g gs c ρ');
    equations_same = λ ρ ρ' a k. (
      sym (both_same ρ ρ' (less ρ ρ' a)).0 ∙ k.0 ∙ eval_eval c.head (λ v. var (s.entries + 1, v)) ρ ∙ ap (eval c.head) (here ρ ρ' a) ∙ sym (eval_eval c.head (λ v. var (s.entries + 1, v)) ρ'),
      settled.equations_same ρ ρ' (less ρ ρ' a) k.1,
    );
    callable = callables_join c.goals gs (λ v. var (s.entries + 1, v)) h (subst Callables are settled.callable).1;
  }
    where
      less : (ρ ρ' : Valuation) → Agree (s.entries + 1) ρ ρ' → Agree s.entries ρ ρ'
      less ρ ρ' a j le v = a j (omega arith) v

      here : (ρ ρ' : Valuation) → Agree (s.entries + 1) ρ ρ' → part ρ (s.entries + 1) ≡ part ρ' (s.entries + 1)
      here ρ ρ' a = each (λ v. a (s.entries + 1) (omega arith) v)

-- terms for one entry more
abbrev and_entry : Valuation → ℕ → (Variable → Term ℕ) → Valuation
and_entry ρ k τ a = cond (eqb a.0 k) (τ a.1) (ρ a)

-- a clause entered: where the path stands then, and the valuation with the terms of that entry
record Entered (deck : Deck) (s : Standing) (n : ℕ) (ρ : Valuation) (gs : Terms ℕ) : Type 0 where
  pub to : Standing
  pub by : Valuation
  pub takes : taken s s.goals (clause_at deck n) ≡ Some to
  pub further : s.entries ≤ to.entries
  pub settled : Settled to
  pub solves : Solves by to.equations
  pub left : evals to.goals by ≡ gs
  pub agrees : Agree s.entries ρ by

module _ (s : Standing) (settled : Settled s) (ρ : Valuation) (solved : Solves ρ s.equations) where
  entered : (deck : Deck) (n : ℕ) (ts us bs : Terms ℕ) → Found deck n ts bs → evals s.goals ρ ≡ cons (node (rule_at (program_of deck) n).name ts) us → Entered deck s n ρ (join bs us)
  entered deck n ts us bs f e =
      let c = f.clause in
      let k = s.entries + 1 in
      let τ = f.relates.0 in
      let u = uncons s.goals ρ (node (rule_at (program_of deck) n).name ts) us e in
      let g = u.0 in
      let gs = u.1 in
      let by : Valuation = and_entry ρ k τ in
      let meets : eval g ρ ≡ eval c.head τ = u.3 ∙ ap (λ x. node x ts) f.name ∙ sym f.relates.1 in
      let symbol : same_symbol g c.head ≡ true = meet g c.head ρ τ (subst Callables u.2 settled.callable).0 f.head meets in
      let new : part by k ≡ τ = each (λ v. cond-true (eqb k k) (τ v) (ρ (k, v)) (eq-eqb k k refl)) in
      let old : Agree s.entries ρ by = λ j le v. sym (cond-false (eqb j k) (τ v) (ρ (j, v)) (ne_eqb j k (λ e. omega arith))) in
      let same = both_same s settled g gs u.2 c ρ by old in
      record {
        to = taking s g gs c;
        by = by;
        takes = ap₂ (taken s) u.2 f.at ∙ cond-true (same_symbol g c.head) (Some (taking s g gs c)) None symbol;
        further = omega arith;
        settled = settled_on s settled g gs u.2 c f.goals;
        solves = (sym same.0 ∙ meets ∙ ap (eval c.head) (sym new) ∙ sym (eval_eval c.head (λ v. var (k, v)) by), settled.equations_same ρ by old solved);
        left = body s g gs c by ∙ ap₂ join (ap (evals c.goals) new ∙ f.relates.2) (sym same.1 ∙ u.4);
        agrees = old;
      }

-- a whole path entered
pub record Assembled (deck : Deck) (p : Path) (s : Standing) (ρ : Valuation) (hs : Terms ℕ) : Type 0 where
  pub to : Standing
  pub by : Valuation
  pub follows : follow deck p (Some s) ≡ Some to
  pub solves : Solves by to.equations
  pub left : evals to.goals by ≡ hs
  pub agrees : Agree s.entries ρ by

module _ (deck : Deck) (proper : Proper deck) where
  pub back : (p : Path) (s : Standing) (ρ : Valuation) (hs : Terms ℕ) → Settled s → Solves ρ s.equations → Leads (program_of deck) (evals s.goals ρ) p hs → Assembled deck p s ρ hs
  back [] s ρ hs settled solved l = record { to = s; by = ρ; follows = refl; solves = solved; left = l; agrees = λ j le v. refl }
  back (n ∷ p) s ρ hs settled solved l =
      let e = entered s settled ρ solved deck n l.0 l.1 l.2 (found deck proper n l.0 l.2 l.4) l.3 in
      let r = back p e.to e.by hs e.settled e.solves (subst (λ x. Leads (program_of deck) x p hs) (sym e.left) l.5) in
      record {
        to = r.to;
        by = r.by;
        follows = ap (follow deck p) e.takes ∙ r.follows;
        solves = r.solves;
        left = r.left;
        agrees = λ j le v. e.agrees j le v ∙ r.agrees j (omega (arith, e.further)) v;
      }
