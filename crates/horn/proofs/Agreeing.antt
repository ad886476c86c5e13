-- The equations of a path and the instances of its clauses have the same solutions.
use Rattle.std.proofs.Common.{◌≡◌, ℕ, zero, suc, ◌+◌, ◌↔◌, [], ◌∷◌, Some, sym, refl, ap, ◌∙◌, subst, ap₂, arith}
use Rattle.horn.specs.Terms.{Terms, var, nil, evals}
use Rattle.horn.specs.Clauses.{Variable, Query, Callables}
use Rattle.horn.specs.Weights.{query_weight}
use Rattle.horn.specs.Paths.{Path}
use Rattle.horn.specs.Equations.{Deck, Standing, Valuation, Solves, clause_at, asked, standing, weight_of, clauses_weight, Proper}
use Rattle.horn.specs.Answers.{Values, Solution}
use Rattle.horn.specs.Walk.{deck_tree, SameTree}
use Rattle.horn.specs.Instances.{Leads, rule_at, rules_weight, program_of, instance_tree}
use Rattle.horn.specs.Theorems.{Agreement}
use Rattle.horn.proofs.TermLaws.{evals_evals, each, unnil}
use Rattle.horn.proofs.Leading.{part, into}
use Rattle.horn.proofs.Assembling.{Assembled, back, settled_asked}
use Rattle.horn.proofs.Following.{known, knowing}

weight_at : (deck : Deck) (n : ℕ) → weight_of (clause_at deck n) ≡ (rule_at (program_of deck) n).weight
weight_at [] n = refl
weight_at (c ∷ deck) zero = refl
weight_at (c ∷ deck) (suc zero) = refl
weight_at (c ∷ deck) (suc (suc n)) = weight_at deck (suc n)

weights : (deck : Deck) (p : Path) → clauses_weight deck p ≡ rules_weight (program_of deck) p
weights deck [] = refl
weights deck (c ∷ p) = ap₂ (λ (m n : ℕ). m + n) (weight_at deck c) (weights deck p)

module _ (deck : Deck) (q : Query) where
  -- a solution of p's equations that gives the query's variables σ leads to the goals left
  out : (p : Path) (s : Standing) → standing deck q p ≡ Some s → (ρ : Valuation) → Solves ρ s.equations → (σ : Values) → ((v : Variable) → ρ (0, v) ≡ σ v) → Leads (program_of deck) (evals q σ) p (evals s.goals ρ)
  out p s e ρ h σ at =
      subst (λ x. Leads (program_of deck) x p (evals s.goals ρ)) (evals_evals q (λ v. var (0, v)) ρ ∙ ap (evals q) (each at)) (into deck ρ p (asked q) s e h)

  module _ (proper : Proper deck) (callable : Callables q) where
    assembled : (p : Path) (σ : Values) (hs : Terms ℕ) → Leads (program_of deck) (evals q σ) p hs → Assembled deck p (asked q) (λ a. σ a.1) hs
    assembled p σ hs l =
        back deck proper p (asked q) (λ a. σ a.1) hs (settled_asked q callable) tt (subst (λ x. Leads (program_of deck) x p hs) (sym (evals_evals q (λ v. var (0, v)) (λ a. σ a.1))) l)

    solutions : (p : Path) (σ : Values) → Solution deck q p σ ↔ ((hs : Terms ℕ) × Leads (program_of deck) (evals q σ) p hs)
    solutions p σ = (
      λ h. let k = known (standing deck q p) _ h in (evals k.0.goals k.2.0, out p k.0 k.1 k.2.0 k.2.1 σ k.2.2),
      λ l. let a = assembled p σ l.0 l.1 in knowing (standing deck q p) _ a.to a.follows (a.by, a.solves, λ v. sym (a.agrees 0 (omega arith) v)),
    )

    same_tree : SameTree (deck_tree deck q) (instance_tree deck q)
    same_tree = record {
      passable = λ p. (
        λ h. let k = known (standing deck q p) _ h in
            let σ : Values = part k.2.0 0 in
            (evals q σ, evals k.0.goals k.2.0, (σ, refl), out p k.0 k.1 k.2.0 k.2.1 σ (λ v. refl)),
        λ l. let a = assembled p l.2.0 l.1 (subst (λ x. Leads (program_of deck) x p l.1) (sym l.2.1) l.3) in
            knowing (standing deck q p) _ a.to a.follows (a.by, a.solves),
      );
      successful = λ p. (
        λ h. let k = known (standing deck q p) _ h in
            let σ : Values = part k.2.0 0 in
            (evals q σ, (σ, refl), subst (λ x. Leads (program_of deck) (evals q σ) p x) (ap (λ x. evals x k.2.0) k.2.2) (out p k.0 k.1 k.2.0 k.2.1 σ (λ v. refl))),
        λ l. let a = assembled p l.1.0 nil (subst (λ x. Leads (program_of deck) x p nil) (sym l.1.1) l.2) in
            knowing (standing deck q p) _ a.to a.follows (a.by, a.solves, unnil a.to.goals a.by a.left),
      );
      weight = λ p. ap (λ n. query_weight q + n) (weights deck p);
    }

pub agreement : Agreement
agreement deck q proper callable = record { tree = same_tree deck q proper callable; values = solutions deck q proper callable }
