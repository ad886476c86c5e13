-- Terms, clauses and queries as Prolog writes them.
use Rattle.std.specs.Prelude.{ℕ, cond, List, [], ◌∷◌, ◌++◌, codes}
use Rattle.horn.specs.Terms.{Name, Term, var, node, nil, cons}
use Rattle.horn.specs.Clauses.{Clause, Query, Written, written}
use Rattle.lines.specs.Words.{every, plain}

-- a name begins with a small letter; one with more than letters, digits and `_` is quoted
abbrev pub atom : Name → List ℕ
atom f = cond (every plain f) f (39 ∷ (f ++ 39 ∷ []))

abbrev mutual
  pub term : Term Name → List ℕ
  term (var v) = v
  term (node f ts) = atom f ++ arguments ts

  -- in parentheses
  pub arguments : Written → List ℕ
  arguments nil = []
  arguments (cons t ts) = 40 ∷ (term t ++ (others ts ++ 41 ∷ []))

  -- a comma and a space before each
  pub others : Written → List ℕ
  others nil = []
  others (cons t ts) = 44 ∷ 32 ∷ (term t ++ others ts)

-- a comma and a space between each two
abbrev pub listed : Written → List ℕ
listed nil = []
listed (cons t ts) = term t ++ others ts

-- what follows a head
abbrev pub body_text : Written → List ℕ
body_text nil = []
body_text (cons g gs) = codes " :- " ++ listed (cons g gs)

-- a head and its goals; without a head there is no clause
abbrev pub rule_text : Written → List ℕ
rule_text nil = []
rule_text (cons h gs) = term h ++ (body_text gs ++ codes ".")

-- goals, in a comment
abbrev pub goal_text : Written → List ℕ
goal_text gs = codes "% ?- " ++ (listed gs ++ codes ".")

abbrev pub clause_text : Clause → List ℕ
clause_text c = rule_text (written (cons c.head c.goals))

abbrev pub query_text : Query → List ℕ
query_text q = goal_text (written q)
