-- The walk: which paths of a search tree are walked under a fuel, and what a search answers.
use Rattle.std.specs.Prelude.{◌≡◌, ℕ, ◌<◌, ◌≤◌, ◌↔◌, List, [], ◌∷◌, ◌++◌, length}
use Rattle.horn.specs.Terms.{nil}
use Rattle.horn.specs.Clauses.{Query}
use Rattle.horn.specs.Weights.{line_weight_limit, query_weight}
use Rattle.horn.specs.Paths.{Path, Before, UpTo, In, Ascending, Count, Rank, Nth}
use Rattle.horn.specs.Equations.{Deck, Passable, Successful, path_weight}

-- which paths are passable, which are successful, and what a path weighs
pub record Tree : Type 1 where
  pub passable : Path → Type 0
  pub successful : Path → Type 0
  pub weight : Path → ℕ

-- the tree of a deck and a query
abbrev pub deck_tree : Deck → Query → Tree
deck_tree deck q = record { passable = Passable deck q; successful = Successful deck q; weight = path_weight deck q }

-- how long a path of the walk may be
abbrev pub length_limit : ℕ
length_limit = 256

-- how heavy a path of the walk may be
abbrev pub weight_limit : ℕ
weight_limit = 4096

-- what a query line gives: some goal, and at most the weight of a line
pub record Posable (q : Query) : Type 0 where
  pub some : q ≡ nil → ⊥
  pub light : query_weight q ≤ line_weight_limit

-- the number of a halt for want of fuel
abbrev pub fuel_halt : ℕ
fuel_halt = 21

-- the number of a halt at a path that is too long
abbrev pub length_halt : ℕ
length_halt = 22

-- the number of a halt at a path that is too heavy
abbrev pub weight_halt : ℕ
weight_halt = 23

-- p has some number
abbrev pub NonEmpty : Path → Type 0
NonEmpty [] = ⊥
NonEmpty (c ∷ p) = Unit {0}

-- a non-empty passable path
abbrev pub Step : Tree → Path → Type 0
Step t p = t.passable p × NonEmpty p

-- the rank of p among the steps exceeds the fuel: more of them than the fuel stand up to p (never so for the empty path)
abbrev pub PastFuel : Tree → ℕ → Path → Type 0
PastFuel t fuel p = (w : List Path) × Ascending w × ((q : Path) → In q w → Step t q × UpTo q p) × (fuel < length w)

-- the limits that a path breaks, by their numbers
pub data Breaks (t : Tree) (fuel : ℕ) (p : Path) : ℕ → Type 0 where
  past_fuel : PastFuel t fuel p → Breaks t fuel p fuel_halt
  too_long : length_limit < length p → Breaks t fuel p length_halt
  too_heavy : weight_limit < t.weight p → Breaks t fuel p weight_halt

-- a passable path that breaks limit m
abbrev pub Over : Tree → ℕ → Path → ℕ → Type 0
Over t fuel p m = t.passable p × Breaks t fuel p m

-- p is the first path over a limit, and m is the first of the limits that it breaks
pub record FirstOver (t : Tree) (fuel : ℕ) (p : Path) (m : ℕ) : Type 0 where
  pub over : Over t fuel p m
  pub lowest : (k : ℕ) → k < m → Over t fuel p k → ⊥
  pub first : (q : Path) (k : ℕ) → Over t fuel q k → UpTo p q

-- the walk: the passable paths before the first one over a limit
pub record Walked (t : Tree) (fuel : ℕ) (p : Path) : Type 0 where
  pub passes : t.passable p
  pub ahead : (q : Path) (m : ℕ) → Over t fuel q m → Before p q

-- a successful path of the walk
abbrev pub Hit : Tree → ℕ → Path → Type 0
Hit t fuel p = Walked t fuel p × t.successful p

-- a non-empty path of the walk
abbrev pub Trod : Tree → ℕ → Path → Type 0
Trod t fuel p = Walked t fuel p × NonEmpty p

-- p is the n-th successful path of the walk, and s non-empty paths of the walk stand up to it
pub record Answered (t : Tree) (fuel : ℕ) (p : Path) (n s : ℕ) : Type 0 where
  pub nth : Nth (Hit t fuel) p n
  pub spent : Rank (Trod t fuel) p s

-- no path is over a limit; the walk has n successful paths, and s that are not empty
pub record Exhausted (t : Tree) (fuel n s : ℕ) : Type 0 where
  pub none : (q : Path) (m : ℕ) → Over t fuel q m → ⊥
  pub hits : Count (Hit t fuel) n
  pub spent : Count (Trod t fuel) s

-- the first path over a limit is over limit m; the walk has n successful paths, and s that are not empty
pub record Stopped (t : Tree) (fuel m n s : ℕ) : Type 0 where
  pub at : Path
  pub first : FirstOver t fuel at m
  pub hits : Count (Hit t fuel) n
  pub spent : Count (Trod t fuel) s

-- a search tree: the empty path passes, has goals left and is light; a path passes only if each path that it extends does; no clause has the number 0
pub record Grown (t : Tree) : Type 0 where
  pub root : t.passable []
  pub goals : t.successful [] → ⊥
  pub light : t.weight [] ≤ weight_limit
  pub closed : (p r : Path) → t.passable (p ++ r) → t.passable p
  pub counted : (p : Path) → t.passable (p ++ (0 ∷ [])) → ⊥

-- the same paths with the same weights
pub record SameTree (t u : Tree) : Type 0 where
  pub passable : (p : Path) → t.passable p ↔ u.passable p
  pub successful : (p : Path) → t.successful p ↔ u.successful p
  pub weight : (p : Path) → t.weight p ≡ u.weight p
