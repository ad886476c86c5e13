-- A path's standing, step by step; the paths of a deck make a search tree.
use Rattle.std.proofs.Common.{◌≡◌, ℕ, zero, suc, ◌<◌, ◌≤◌, Bool, true, false, cond, [], ◌∷◌, ◌++◌, length, Some, None, Option, sym, refl, ap, ◌∙◌, subst, arith, MatchOption}
use Rattle.horn.specs.Terms.{Term, Terms, var, nil, cons}
use Rattle.horn.specs.Clauses.{Query, Clause}
use Rattle.horn.specs.Paths.{Path}
use Rattle.horn.specs.Equations.{Deck, Apart, Standing, Valuation, Solves, clause_at, same_symbol, taking, taken, follow, asked, standing}
use Rattle.horn.specs.Walk.{Grown, deck_tree, Posable}
use Rattle.horn.specs.Search.{NoneLeft}

-- what holds of the standing, if there is one
pub known : {A : Type 0} (o : Option A) (P : A → Type 0) → MatchOption o ⊥ P → (a : A) × (o ≡ Some a) × P a
known None P h = absurd h
known (Some a) P h = (a, refl, h)

pub knowing : {A : Type 0} (o : Option A) (P : A → Type 0) (a : A) → o ≡ Some a → P a → MatchOption o ⊥ P
knowing o P a e h = subst (λ x. MatchOption x ⊥ P) (sym e) h

-- one step
pub record Took (s : Standing) (gs : Terms Apart) (o : Option Clause) (s' : Standing) : Type 0 where
  pub goal : Term Apart
  pub rest : Terms Apart
  pub clause : Clause
  pub goals_are : gs ≡ cons goal rest
  pub clause_is : o ≡ Some clause
  pub same : same_symbol goal clause.head ≡ true
  pub is : s' ≡ taking s goal rest clause

pub took : (s : Standing) (gs : Terms Apart) (o : Option Clause) (s' : Standing) → taken s gs o ≡ Some s' → Took s gs o s'
took s nil o s' e = let z : ◌≡◌ {A = ℕ} 0 1 = cc in absurd (omega arith)
took s (cons g gs) None s' e = let z : ◌≡◌ {A = ℕ} 0 1 = cc in absurd (omega arith)
took s (cons g gs) (Some c) s' e = go (same_symbol g c.head) refl e
  where
    go : (b : Bool) → same_symbol g c.head ≡ b → cond b (Some (taking s g gs c)) None ≡ Some s' → Took s (cons g gs) (Some c) s'
    go true h k = record { goal = g; rest = gs; clause = c; goals_are = refl; clause_is = refl; same = h; is = cc }
    go false h k = let z : ◌≡◌ {A = ℕ} 0 1 = cc in absurd (omega arith)

-- no clause has the number 0, or one past the last
pub none_at_zero : (deck : Deck) → clause_at deck 0 ≡ None
none_at_zero [] = refl
none_at_zero (c ∷ deck) = refl

pub none_past : (deck : Deck) (n : ℕ) → length deck < n → clause_at deck n ≡ None
none_past [] n h = refl
none_past (c ∷ deck) zero h = absurd (omega arith)
none_past (c ∷ deck) (suc zero) h = absurd (omega arith)
none_past (c ∷ deck) (suc (suc n)) h = none_past deck (suc n) (omega arith)

module _ (deck : Deck) where
  pub follow_append : (p r : Path) (o : Option Standing) → follow deck (p ++ r) o ≡ follow deck r (follow deck p o)
  follow_append p r None = refl
  follow_append [] r (Some s) = refl
  follow_append (c ∷ p) r (Some s) = follow_append p r (taken s s.goals (clause_at deck c))

  pub from_some : (p : Path) (o : Option Standing) (s' : Standing) → follow deck p o ≡ Some s' → (s : Standing) × (o ≡ Some s)
  from_some p None s' e = let z : ◌≡◌ {A = ℕ} 0 1 = cc in absurd (omega arith)
  from_some p (Some s) s' e = (s, refl)

  -- a longer path has the equations of the shorter
  pub solves_less : (ρ : Valuation) (p : Path) (s s' : Standing) → follow deck p (Some s) ≡ Some s' → Solves ρ s'.equations → Solves ρ s.equations
  solves_less ρ [] s s' e h = let k : s ≡ s' = cc in subst (λ x. Solves ρ x.equations) (sym k) h
  solves_less ρ (c ∷ p) s s' e h =
      let m = from_some p (taken s s.goals (clause_at deck c)) s' e in
      let t = took s s.goals (clause_at deck c) m.0 m.1 in
      let k : Solves ρ m.0.equations = solves_less ρ p m.0 s' (subst (λ o. follow deck p o ≡ Some s') m.1 e) h in
      (subst (λ x. Solves ρ x.equations) t.is k).1

  no_clause : (s : Standing) (gs : Terms Apart) → taken s gs None ≡ None
  no_clause s nil = refl
  no_clause s (cons g gs) = refl

  module _ (q : Query) where
    pub split : (p r : Path) (s' : Standing) → standing deck q (p ++ r) ≡ Some s' → (s : Standing) × (standing deck q p ≡ Some s) × (follow deck r (Some s) ≡ Some s')
    split p r s' e =
        let k : follow deck r (standing deck q p) ≡ Some s' = sym (follow_append p r (Some (asked q))) ∙ e in
        let m = from_some r (standing deck q p) s' k in
        (m.0, m.1, subst (λ o. follow deck r o ≡ Some s') m.1 k)

    closed : (p r : Path) → (deck_tree deck q).passable (p ++ r) → (deck_tree deck q).passable p
    closed p r h =
        let k = known (standing deck q (p ++ r)) _ h in
        let m = split p r k.0 k.1 in
        knowing (standing deck q p) _ m.0 m.1 (k.2.0, solves_less k.2.0 r m.0 k.0 m.2 k.2.1)

    -- no path goes on where a step is none
    stuck : (p : Path) (d : ℕ) → ((s : Standing) → standing deck q p ≡ Some s → taken s s.goals (clause_at deck d) ≡ None) → (deck_tree deck q).passable (p ++ (d ∷ [])) → ⊥
    stuck p d none h =
        let k = known (standing deck q (p ++ (d ∷ []))) _ h in
        let m = split p (d ∷ []) k.0 k.1 in
        let f : follow deck [] None ≡ Some k.0 = subst (λ o. follow deck [] o ≡ Some k.0) (none m.0 m.1) m.2 in
        let z : ◌≡◌ {A = ℕ} 0 1 = cc in omega arith

    missing : (p : Path) (d : ℕ) → clause_at deck d ≡ None → (deck_tree deck q).passable (p ++ (d ∷ [])) → ⊥
    missing p d e = stuck p d (λ s at. ap (taken s s.goals) e ∙ no_clause s s.goals)

    -- all clauses are done
    pub past_last : (p : Path) (after : ℕ) → length deck ≤ after → NoneLeft (deck_tree deck q) p after
    past_last p after le d lt = missing p d (none_past deck d (omega arith))

    -- no goal is left
    pub no_goals : (p : Path) (after : ℕ) (s : Standing) → standing deck q p ≡ Some s → s.goals ≡ nil → NoneLeft (deck_tree deck q) p after
    no_goals p after s at e d lt =
        stuck p d (λ s' at'. let k : s ≡ s' = cc in ap (λ gs. taken s' gs (clause_at deck d)) (subst (λ x. x.goals ≡ nil) k e))

    pub grows : Posable q → Grown (deck_tree deck q)
    grows h = record {
      root = (λ v. var 0, tt);
      goals = λ k. goals_left q h.some k.2;
      light = omega (arith, h.light);
      closed = closed;
      counted = λ p. missing p 0 (none_at_zero deck);
    }
      where
        goals_left : (q : Query) → (q ≡ nil → ⊥) → (asked q).goals ≡ nil → ⊥
        goals_left nil n e = n refl
        goals_left (cons g gs) n e = let z : ◌≡◌ {A = ℕ} 0 1 = cc in omega arith
