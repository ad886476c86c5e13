-- The weight of a line: 1 for each goal, constant argument and variable, 2 for each structure that is an argument.
use Rattle.std.specs.Prelude.{ℕ, ◌+◌}
use Rattle.horn.specs.Terms.{Term, Terms, var, node, nil, cons}
use Rattle.horn.specs.Clauses.{Clause, Query}

-- an argument's own weight, by its arguments
abbrev pub own : {V : Type 0} → Terms V → ℕ
own nil = 1
own (cons t ts) = 2

abbrev mutual
  pub weigh : {V : Type 0} → Term V → ℕ
  weigh (var v) = 1
  weigh (node f ts) = own ts + weighs ts

  pub weighs : {V : Type 0} → Terms V → ℕ
  weighs nil = 0
  weighs (cons t ts) = weigh t + weighs ts

-- a head or goal without its own field
abbrev pub under : {V : Type 0} → Term V → ℕ
under (var v) = 0
under (node f ts) = weighs ts

-- heads and goals: the first has the weight `price` of its own, each other 1
abbrev pub load : {V : Type 0} → ℕ → Terms V → ℕ
load price nil = 0
load price (cons t ts) = price + (under t + load 1 ts)

abbrev pub clause_weight : Clause → ℕ
clause_weight c = load 0 (cons c.head c.goals)

abbrev pub query_weight : Query → ℕ
query_weight q = load 1 q

-- how heavy a line may be
abbrev pub line_weight_limit : ℕ
line_weight_limit = 128
