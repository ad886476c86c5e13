-- Clauses and queries, and their variables.
use Rattle.std.specs.Prelude.{ℕ, ◌+◌, Bool, false, cond, [], ◌∷◌, ◌==◌}
use Rattle.horn.specs.Terms.{Name, Term, Terms, var, node, nil, cons, evals}

-- a variable of a line: one that has a name, or the n-th `_`, counted from 0
pub data Variable : Type 0 where
  named : Name → Variable
  blank : ℕ → Variable

-- the head holds if the goals do
pub record Clause : Type 0 where
  pub head : Term Variable
  pub goals : Terms Variable

abbrev pub Query : Type 0
Query = Terms Variable

-- a head or goal is no variable
abbrev pub Callable : {V : Type 0} → Term V → Type 0
Callable (var v) = ⊥
Callable (node f ts) = Unit {0}

abbrev pub Callables : {V : Type 0} → Terms V → Type 0
Callables nil = Unit {0}
Callables (cons t ts) = Callable t × Callables ts

-- terms as they are written, each variable by its name
abbrev pub Written : Type 0
Written = Terms Name

abbrev pub is_blank : Name → Bool
is_blank [] = false
is_blank (b ∷ []) = b == 95
is_blank (b ∷ c ∷ bs) = false

-- what a variable is called
abbrev pub called : Variable → Name
called (named v) = v
called (blank n) = 95 ∷ []

abbrev pub written : Terms Variable → Written
written ts = evals ts (λ v. var (called v))

-- the variable that a name stands for where n blanks came before
abbrev pub meant : ℕ → Name → Variable
meant n v = cond (is_blank v) (blank n) (named v)

-- how many blanks
abbrev mutual
  pub blanks : Term Name → ℕ
  blanks (var v) = cond (is_blank v) 1 0
  blanks (node f ts) = blankss ts

  pub blankss : Written → ℕ
  blankss nil = 0
  blankss (cons t ts) = blanks t + blankss ts

-- the terms that are meant: a `_` is a variable of its own each time
abbrev mutual
  pub apart : ℕ → Term Name → Term Variable
  apart n (var v) = var (meant n v)
  apart n (node f ts) = node f (aparts n ts)

  pub aparts : ℕ → Written → Terms Variable
  aparts n nil = nil
  aparts n (cons t ts) = cons (apart n t) (aparts (n + blanks t) ts)
