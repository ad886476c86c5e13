-- The grammar: how terms are spelt as a line, and which may be.
use Rattle.std.specs.Prelude.{◌≡◌, ℕ, ◌+◌, ◌-◌, ◌≤◌, List, [], ◌∷◌, map, length}
use Rattle.lines.specs.declared.kind.Kind.{Kind}
use Rattle.horn.specs.Terms.{Name, Term, var, node, nil, cons, count}
use Rattle.horn.specs.Clauses.{Written, Callables}
use Rattle.horn.specs.Weights.{line_weight_limit, load}
use Rattle.horn.specs.Notation.{variable, field, word_for, wordss, joined}
use Rattle.lines.specs.Kinds.{mark, least, heads}
use Rattle.lines.specs.Limits.{line_limit, goal_limit}
use Rattle.lines.specs.Words.{GoodWord}

-- the letter, the number of goals, and the terms in prefix order
abbrev pub spell : Kind → Written → List ℕ
spell k ts = joined ((mark k ∷ []) ∷ ((48 + (count ts - heads k)) ∷ []) ∷ map field (wordss ts []))

-- names, arities and variables are of the forms that fields have
abbrev mutual
  pub Good : Term Name → Type 0
  Good (var v) = GoodWord (variable v)
  Good (node f ts) = GoodWord (word_for f (count ts)) × Goods ts

  pub Goods : Written → Type 0
  Goods nil = Unit {0}
  Goods (cons t ts) = Good t × Goods ts

-- what may be spelt
pub record Proper (k : Kind) (ts : Written) : Type 0 where
  pub good : Goods ts
  pub callable : Callables ts
  pub some : heads k + least k ≤ count ts
  pub few : count ts ≤ heads k + goal_limit
  pub light : load (least k) ts ≤ line_weight_limit
  pub short : length (spell k ts) ≤ line_limit

-- the line spells these terms
pub record Reading (k : Kind) (line : List ℕ) (ts : Written) : Type 0 where
  pub proper : Proper k ts
  pub spelling : spell k ts ≡ line
