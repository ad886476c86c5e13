-- A depth-first search: what holds where it stands, and its moves.
use Rattle.std.specs.Prelude.{ℕ, ◌+◌, ◌<◌, ◌≤◌, [], ◌∷◌, ◌++◌, length}
use Rattle.horn.specs.Paths.{Path, Before, UpTo, Count}
use Rattle.horn.specs.Walk.{Tree, Step, Over, Answered, Exhausted, Stopped, length_limit, weight_limit, fuel_halt, length_halt, weight_halt}

-- p with one number more
abbrev pub child : Path → ℕ → Path
child p c = p ++ (c ∷ [])

-- the passable paths before b have been walked: n successful ones, s non-empty ones, and none over a limit
pub record Stands (t : Tree) (fuel : ℕ) (b : Path) (n s : ℕ) : Type 0 where
  pub hits : Count (λ q. (t.passable q × t.successful q) × Before q b) n
  pub steps : Count (λ q. Step t q × Before q b) s
  pub clear : (q : Path) (m : ℕ) → Over t fuel q m → UpTo b q

-- the search is at the path `here`, has done the clauses up to `after` there, and has found n answers with s steps
pub record Placed (t : Tree) (fuel : ℕ) (here : Path) (after n s : ℕ) : Type 0 where
  pub deep : length here ≤ length_limit
  pub stands : Stands t fuel (child here (after + 1)) n s
  pub paid : s ≤ fuel
  pub fewer : n ≤ s

-- no clause above `after` passes here
abbrev pub NoneLeft : Tree → Path → ℕ → Type 0
NoneLeft t here after = (d : ℕ) → after < d → t.passable (child here d) → ⊥

-- clause c is above `after`, and none between them passes here
abbrev pub Next : Tree → Path → ℕ → ℕ → Type 0
Next t here after c = (after < c) × ((d : ℕ) → after < d → d < c → t.passable (child here d) → ⊥)

-- clause c is the next that passes here
pub record Passing (t : Tree) (fuel : ℕ) (here : Path) (after c n s : ℕ) : Type 0 where
  pub placed : Placed t fuel here after n s
  pub next : Next t here after c
  pub passes : t.passable (child here c)

-- after s steps, one more to p is within the limits
pub record Within (t : Tree) (fuel : ℕ) (p : Path) (s : ℕ) : Type 0 where
  pub fueled : s < fuel
  pub short : length p ≤ length_limit
  pub light : t.weight p ≤ weight_limit

-- the moves of a search, and what it may say at each
pub record Moves (t : Tree) (fuel : ℕ) : Type 0 where
  -- before the first move
  pub start : Placed t fuel [] 0 0 0
  -- clause c does not pass
  pub fail : (here : Path) (after c n s : ℕ) → Placed t fuel here after n s → Next t here after c → (t.passable (child here c) → ⊥) → Placed t fuel here c n s
  -- no clause is left: back to the path above, or the end
  pub back : (p : Path) (c after n s : ℕ) → Placed t fuel (child p c) after n s → NoneLeft t (child p c) after → Placed t fuel p c n s
  pub finish : (after n s : ℕ) → Placed t fuel [] after n s → NoneLeft t [] after → Exhausted t fuel n s
  -- clause c passes, and the path is over a limit
  pub halt_fuel : (here : Path) (after c n s : ℕ) → Passing t fuel here after c n s → fuel ≤ s → Stopped t fuel fuel_halt n s
  pub halt_length : (here : Path) (after c n s : ℕ) → Passing t fuel here after c n s → s < fuel → length_limit < length (child here c) → Stopped t fuel length_halt n s
  pub halt_weight : (here : Path) (after c n s : ℕ) → Passing t fuel here after c n s → s < fuel → length (child here c) ≤ length_limit → weight_limit < t.weight (child here c) → Stopped t fuel weight_halt n s
  -- clause c passes within the limits: goals are left, or it is an answer
  pub enter : (here : Path) (after c n s : ℕ) → Passing t fuel here after c n s → Within t fuel (child here c) s → (t.successful (child here c) → ⊥) → Placed t fuel (child here c) 0 n (s + 1)
  pub hit : (here : Path) (after c n s : ℕ) → Passing t fuel here after c n s → Within t fuel (child here c) s → t.successful (child here c)
      → Placed t fuel (child here c) 0 (n + 1) (s + 1) × Answered t fuel (child here c) (n + 1) (s + 1)
