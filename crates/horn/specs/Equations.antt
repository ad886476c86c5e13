-- The goals and equations of a path, its solutions and its weight.
use Rattle.std.specs.Prelude.{◌≡◌, ℕ, zero, suc, ◌+◌, Bool, true, false, cond, ◌&&◌, List, [], ◌∷◌, Some, None, Option, MatchOption, ◌==◌}
use Rattle.horn.specs.Terms.{Name, Term, Terms, var, node, nil, cons, count, join, eval, evals}
use Rattle.horn.specs.Clauses.{Variable, Clause, Query, Callable, Callables}
use Rattle.horn.specs.Weights.{clause_weight, query_weight}
use Rattle.horn.specs.Paths.{Path}

-- clauses in order
abbrev pub Deck : Type 0
Deck = List Clause

-- the n-th clause, counted from 1
abbrev pub clause_at : Deck → ℕ → Option Clause
clause_at [] n = None
clause_at (c ∷ cs) zero = None
clause_at (c ∷ cs) (suc zero) = Some c
clause_at (c ∷ cs) (suc (suc n)) = clause_at cs (suc n)

-- heads and goals are no variables
abbrev pub Proper : Deck → Type 0
Proper [] = Unit {0}
Proper (c ∷ cs) = Callable c.head × Callables c.goals × Proper cs

-- a variable of a path, with its entry: 0 for the query's, k for those of the clause that was entered k-th
abbrev pub Apart : Type 0
Apart = ℕ × Variable

-- a term of the k-th entry
abbrev pub renamed : ℕ → Term Variable → Term Apart
renamed k t = eval t (λ v. var (k, v))

-- terms of the k-th entry
abbrev pub renameds : ℕ → Terms Variable → Terms Apart
renameds k ts = evals ts (λ v. var (k, v))

-- left side = right side
abbrev pub Equation : Type 0
Equation = Term Apart × Term Apart

-- where a path stands: how many clauses were entered, the equations so far and the goals left
pub record Standing : Type 0 where
  pub entries : ℕ
  pub equations : List Equation
  pub goals : Terms Apart

-- byte by byte
abbrev pub same_name : Name → Name → Bool
same_name [] [] = true
same_name [] (y ∷ ys) = false
same_name (x ∷ xs) [] = false
same_name (x ∷ xs) (y ∷ ys) = x == y && same_name xs ys

-- the same name and as many arguments; a variable has no symbol
abbrev pub same_symbol : {V W : Type 0} → Term V → Term W → Bool
same_symbol (var v) u = false
same_symbol (node f ts) (var w) = false
same_symbol (node f ts) (node g us) = same_name f g && count ts == count us

-- clause c, renamed apart, takes the goal g: g = head is one more equation, and the body stands in the goal's stead
abbrev pub taking : Standing → Term Apart → Terms Apart → Clause → Standing
taking s g gs c = record {
  entries = s.entries + 1;
  equations = (g, renamed (s.entries + 1) c.head) ∷ s.equations;
  goals = join (renameds (s.entries + 1) c.goals) gs;
}

-- the leftmost goal is taken, if there is one, if there is such a clause, and if it has the goal's symbol
abbrev pub taken : Standing → Terms Apart → Option Clause → Option Standing
taken s nil o = None
taken s (cons g gs) None = None
taken s (cons g gs) (Some c) = cond (same_symbol g c.head) (Some (taking s g gs c)) None

-- the numbers of p, one after the other
abbrev pub follow : Deck → Path → Option Standing → Option Standing
follow deck p None = None
follow deck [] (Some s) = Some s
follow deck (c ∷ p) (Some s) = follow deck p (taken s s.goals (clause_at deck c))

-- the empty path has the query's goals and no equations
abbrev pub asked : Query → Standing
asked q = record { entries = 0; equations = []; goals = renameds 0 q }

-- where the path p stands, or None if p is none
abbrev pub standing : Deck → Query → Path → Option Standing
standing deck q p = follow deck p (Some (asked q))

-- finite terms for the variables of a path, over variables that are numbers
abbrev pub Valuation : Type 0
Valuation = Apart → Term ℕ

-- both sides of each equation get the same term
abbrev pub Solves : Valuation → List Equation → Type 0
Solves ρ [] = Unit {0}
Solves ρ (e ∷ es) = (eval e.0 ρ ≡ eval e.1 ρ) × Solves ρ es

-- some valuation solves all equations
abbrev pub Passable : Deck → Query → Path → Type 0
Passable deck q p = MatchOption (standing deck q p) ⊥ (λ s. (ρ : Valuation) × Solves ρ s.equations)

-- also, no goals remain
abbrev pub Successful : Deck → Query → Path → Type 0
Successful deck q p = MatchOption (standing deck q p) ⊥ (λ s. (ρ : Valuation) × Solves ρ s.equations × (s.goals ≡ nil))

-- a number that is no clause weighs 0
abbrev pub weight_of : Option Clause → ℕ
weight_of None = 0
weight_of (Some c) = clause_weight c

-- the weights of the clauses of a path
abbrev pub clauses_weight : Deck → Path → ℕ
clauses_weight deck [] = 0
clauses_weight deck (c ∷ p) = weight_of (clause_at deck c) + clauses_weight deck p

-- the query's weight and those of the clauses
abbrev pub path_weight : Deck → Query → Path → ℕ
path_weight deck q p = query_weight q + clauses_weight deck p
