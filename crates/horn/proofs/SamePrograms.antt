-- Programs with the same rules have the same tree.
use Rattle.std.proofs.Common.{◌≡◌, ℕ, zero, suc, ◌+◌, List, [], ◌∷◌, sym, refl, ap, ◌∙◌, ap₂}
use Rattle.horn.specs.Terms.{Terms, node, cons, join}
use Rattle.horn.specs.Walk.{SameTree}
use Rattle.horn.specs.Paths.{Path}
use Rattle.horn.specs.Instances.{Rule, rule_at, Leads, rules_weight, rule_tree, SameRule, SameRules}

rules_turned : (rs ss : List Rule) → SameRules rs ss → SameRules ss rs
rules_turned [] [] h = tt
rules_turned [] (s ∷ ss) h = absurd h
rules_turned (r ∷ rs) [] h = absurd h
rules_turned (r ∷ rs) (s ∷ ss) h =
    (record { name = sym h.0.name; relates = λ ts gs. ((h.0.relates ts gs).1, (h.0.relates ts gs).0); weight = sym h.0.weight }, rules_turned rs ss h.1)

same_at : (rs ss : List Rule) → SameRules rs ss → (n : ℕ) → SameRule (rule_at rs n) (rule_at ss n)
same_at [] [] h n = record { name = refl; relates = λ ts gs. (λ x. x, λ x. x); weight = refl }
same_at [] (s ∷ ss) h n = absurd h
same_at (r ∷ rs) [] h n = absurd h
same_at (r ∷ rs) (s ∷ ss) h zero = record { name = refl; relates = λ ts gs. (λ x. x, λ x. x); weight = refl }
same_at (r ∷ rs) (s ∷ ss) h (suc zero) = h.0
same_at (r ∷ rs) (s ∷ ss) h (suc (suc n)) = same_at rs ss h.1 (suc n)

pub leads_same : (rs ss : List Rule) → SameRules rs ss → (gs : Terms ℕ) (p : Path) (hs : Terms ℕ) → Leads rs gs p hs → Leads ss gs p hs
leads_same rs ss h gs [] hs l = l
leads_same rs ss h gs (c ∷ p) hs l =
    let k = same_at rs ss h c in
    (l.0, l.1, l.2, l.3 ∙ ap (λ x. cons (node x l.0) l.1) k.name, (k.relates l.0 l.2).0 l.4, leads_same rs ss h (join l.2 l.1) p hs l.5)

weights_same : (rs ss : List Rule) → SameRules rs ss → (p : Path) → rules_weight rs p ≡ rules_weight ss p
weights_same rs ss h [] = refl
weights_same rs ss h (c ∷ p) = ap₂ (λ (m n : ℕ). m + n) (same_at rs ss h c).weight (weights_same rs ss h p)

pub tree_same : (rs ss : List Rule) (asks : Terms ℕ → Type 0) (w : ℕ) → SameRules rs ss → SameTree (rule_tree rs asks w) (rule_tree ss asks w)
tree_same rs ss asks w h = record {
  passable = λ p. (λ l. (l.0, l.1, l.2, leads_same rs ss h l.0 p l.1 l.3), λ l. (l.0, l.1, l.2, leads_same ss rs (rules_turned rs ss h) l.0 p l.1 l.3));
  successful = λ p. (λ l. (l.0, l.1, leads_same rs ss h l.0 p _ l.2), λ l. (l.0, l.1, leads_same ss rs (rules_turned rs ss h) l.0 p _ l.2));
  weight = λ p. ap (λ n. w + n) (weights_same rs ss h p);
}
