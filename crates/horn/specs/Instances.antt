-- The same paths by instances of clauses: nothing is renamed, since each step takes an instance of its own.
use Rattle.std.specs.Prelude.{◌≡◌, ℕ, zero, suc, ◌+◌, ◌↔◌, List, [], ◌∷◌, map}
use Rattle.horn.specs.Terms.{Name, Term, Terms, var, node, nil, cons, join, eval, evals}
use Rattle.horn.specs.Clauses.{Variable, Clause, Query}
use Rattle.horn.specs.Weights.{clause_weight, query_weight}
use Rattle.horn.specs.Paths.{Path}
use Rattle.horn.specs.Equations.{Deck}
use Rattle.horn.specs.Walk.{Tree}

-- a rule relates arguments of its name to goals; a clause is one way to give it, its code another
pub record Rule : Type 1 where
  pub name : Name
  pub relates : Terms ℕ → Terms ℕ → Type 0
  pub weight : ℕ

-- relates nothing
abbrev pub no_rule : Rule
no_rule = record { name = []; relates = λ ts gs. ⊥; weight = 0 }

-- the n-th rule, counted from 1
abbrev pub rule_at : List Rule → ℕ → Rule
rule_at [] n = no_rule
rule_at (r ∷ rs) zero = no_rule
rule_at (r ∷ rs) (suc zero) = r
rule_at (r ∷ rs) (suc (suc n)) = rule_at rs (suc n)

-- along the path, instances of the rules lead from the goals gs to the goals hs
abbrev pub Leads : List Rule → Terms ℕ → Path → Terms ℕ → Type 0
Leads program gs [] hs = gs ≡ hs
Leads program gs (c ∷ p) hs = (ts us bs : Terms ℕ) × (gs ≡ cons (node (rule_at program c).name ts) us) × (rule_at program c).relates ts bs × Leads program (join bs us) p hs

-- the weights of the rules of a path
abbrev pub rules_weight : List Rule → Path → ℕ
rules_weight program [] = 0
rules_weight program (c ∷ p) = (rule_at program c).weight + rules_weight program p

-- the tree of a query that has the instances `asks` and the weight w
abbrev pub rule_tree : List Rule → (Terms ℕ → Type 0) → ℕ → Tree
rule_tree program asks w = record {
  passable = λ p. (gs hs : Terms ℕ) × asks gs × Leads program gs p hs;
  successful = λ p. (gs : Terms ℕ) × asks gs × Leads program gs p nil;
  weight = λ p. w + rules_weight program p;
}

-- the name of a head; a variable has none
abbrev pub head_name : {V : Type 0} → Term V → Name
head_name (var v) = []
head_name (node f ts) = f

-- two ways to give one rule
pub record SameRule (r s : Rule) : Type 0 where
  pub name : r.name ≡ s.name
  pub relates : (ts gs : Terms ℕ) → r.relates ts gs ↔ s.relates ts gs
  pub weight : r.weight ≡ s.weight

-- rule by rule
abbrev pub SameRules : List Rule → List Rule → Type 0
SameRules [] [] = Unit {0}
SameRules [] (s ∷ ss) = ⊥
SameRules (r ∷ rs) [] = ⊥
SameRules (r ∷ rs) (s ∷ ss) = SameRule r s × SameRules rs ss

-- some terms for the clause's variables make its head name(ts) and its body gs
abbrev pub clause_rule : Clause → Rule
clause_rule c = record {
  name = head_name c.head;
  relates = λ ts gs. (τ : Variable → Term ℕ) × (eval c.head τ ≡ node (head_name c.head) ts) × (evals c.goals τ ≡ gs);
  weight = clause_weight c;
}

-- the rules of a deck
abbrev pub program_of : Deck → List Rule
program_of deck = map clause_rule deck

-- the query's instances
abbrev pub Asks : Query → Terms ℕ → Type 0
Asks q gs = (σ : Variable → Term ℕ) × (evals q σ ≡ gs)

-- the tree of a deck and a query, by instances
abbrev pub instance_tree : Deck → Query → Tree
instance_tree deck q = rule_tree (program_of deck) (Asks q) (query_weight q)
