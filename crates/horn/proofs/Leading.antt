-- Paths by instances, one step at the end; and solutions of the equations are instances.
use Rattle.std.proofs.Common.{◌≡◌, ℕ, zero, suc, ◌+◌, List, [], ◌∷◌, Some, sym, refl, ap, ◌∙◌, subst, arith}
use Rattle.horn.specs.Terms.{Term, Terms, var, node, cons, join, eval, evals}
use Rattle.horn.specs.Clauses.{Variable, Clause}
use Rattle.horn.specs.Paths.{Path}
use Rattle.horn.specs.Equations.{Deck, Apart, Standing, Valuation, Solves, clause_at, renameds, taking, taken, follow}
use Rattle.horn.specs.Instances.{Rule, Leads, rule_at, clause_rule, head_name, program_of}
use Rattle.horn.specs.Search.{child}
use Rattle.horn.proofs.TermLaws.{eval_eval, evals_evals, evals_join, headed}
use Rattle.horn.proofs.Following.{took, from_some, solves_less}

-- what a valuation gives the k-th entry's variables
abbrev pub part : Valuation → ℕ → Variable → Term ℕ
part ρ k v = ρ (k, v)

-- the goals after a step
pub body : (s : Standing) (g : Term Apart) (gs : Terms Apart) (c : Clause) (ρ : Valuation) → evals (taking s g gs c).goals ρ ≡ join (evals c.goals (part ρ (s.entries + 1))) (evals gs ρ)
body s g gs c ρ = evals_join (renameds (s.entries + 1) c.goals) gs ρ ∙ ap (λ x. join x (evals gs ρ)) (evals_evals c.goals (λ v. var (s.entries + 1, v)) ρ)

-- one rule more
pub leads_more : (program : List Rule) (p : Path) (c : ℕ) (gs ts us bs : Terms ℕ) → Leads program gs p (cons (node (rule_at program c).name ts) us) → (rule_at program c).relates ts bs → Leads program gs (child p c) (join bs us)
leads_more program [] c gs ts us bs l r = (ts, us, bs, l, r, refl)
leads_more program (d ∷ p) c gs ts us bs l r = (l.0, l.1, l.2, l.3, l.4, leads_more program p c _ ts us bs l.5 r)

pub leads_last : (program : List Rule) (p : Path) (c : ℕ) (gs hs : Terms ℕ) → Leads program gs (child p c) hs
    → (ts us bs : Terms ℕ) × Leads program gs p (cons (node (rule_at program c).name ts) us) × (rule_at program c).relates ts bs × (join bs us ≡ hs)
leads_last program [] c gs hs l = (l.0, l.1, l.2, l.3, l.4, l.5)
leads_last program (d ∷ p) c gs hs l =
    let r = leads_last program p c _ hs l.5 in
    (r.0, r.1, r.2, (l.0, l.1, l.2, l.3, l.4, r.3), r.4, r.5)

-- a step by the rule r
abbrev Step : List Rule → Rule → Terms ℕ → Path → Terms ℕ → Type 0
Step program r gs p hs = (ts us bs : Terms ℕ) × (gs ≡ cons (node r.name ts) us) × r.relates ts bs × Leads program (join bs us) p hs

rule_of : (deck : Deck) (n : ℕ) (c : Clause) → clause_at deck n ≡ Some c → rule_at (program_of deck) n ≡ clause_rule c
rule_of [] n c e = let z : ◌≡◌ {A = ℕ} 0 1 = cc in absurd (omega arith)
rule_of (d ∷ deck) zero c e = let z : ◌≡◌ {A = ℕ} 0 1 = cc in absurd (omega arith)
rule_of (d ∷ deck) (suc zero) c e = let k : d ≡ c = cc in ap clause_rule k
rule_of (d ∷ deck) (suc (suc n)) c e = rule_of deck (suc n) c e

-- solutions of the equations are instances
module _ (deck : Deck) (ρ : Valuation) where
  pub into : (p : Path) (s s' : Standing) → follow deck p (Some s) ≡ Some s' → Solves ρ s'.equations → Leads (program_of deck) (evals s.goals ρ) p (evals s'.goals ρ)
  into [] s s' e h = let k : s ≡ s' = cc in ap (λ x. evals x.goals ρ) k
  into (n ∷ p) s s' e h =
      let m = from_some deck p (taken s s.goals (clause_at deck n)) s' e in
      let t = took s s.goals (clause_at deck n) m.0 m.1 in
      let c = t.clause in
      let e' : follow deck p (Some m.0) ≡ Some s' = subst (λ o. follow deck p o ≡ Some s') m.1 e in
      let τ : Variable → Term ℕ = part ρ (s.entries + 1) in
      let solved : Solves ρ (taking s t.goal t.rest c).equations = subst (λ x. Solves ρ x.equations) t.is (solves_less deck ρ p m.0 s' e' h) in
      let k = headed t.goal c.head t.same in
      let head_is : eval c.head τ ≡ node (head_name c.head) (evals k.0 τ) = ap (λ x. eval x τ) k.1 in
      let goal_is : eval t.goal ρ ≡ node (head_name c.head) (evals k.0 τ) = solved.0 ∙ eval_eval c.head (λ v. var (s.entries + 1, v)) ρ ∙ head_is in
      let on : Leads (program_of deck) (join (evals c.goals τ) (evals t.rest ρ)) p (evals s'.goals ρ) =
      subst (λ x. Leads (program_of deck) x p (evals s'.goals ρ)) (ap (λ x. evals x.goals ρ) t.is ∙ body s t.goal t.rest c ρ) (into p m.0 s' e' h) in
      subst (λ r. Step (program_of deck) r (evals s.goals ρ) p (evals s'.goals ρ)) (sym (rule_of deck n c t.clause_is))
      (evals k.0 τ, evals t.rest ρ, evals c.goals τ, ap (λ x. evals x ρ) t.goals_are ∙ ap (λ x. cons x (evals t.rest ρ)) goal_is, (τ, head_is, refl), on)
