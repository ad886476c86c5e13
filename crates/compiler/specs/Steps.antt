-- How far the code of a clause has come.
use Rattle.std.specs.Prelude.{◌≡◌, ℕ, suc, ◌+◌, ◌<◌, ◌≤◌, Bool, ◌⊎◌, List, [], ◌∷◌, length, take}
use Rattle.horn.specs.Terms.{node, nil, cons}
use Rattle.symbol_table.specs.Symbols.{name_at, arity_at}
use Rattle.compiler.specs.Terms.{hop}
use Rattle.code.specs.Meaning.{Terming, span}
use Rattle.compiler.specs.Places.{Plan, Run, values, BuiltAt, before}
use Rattle.compiler.specs.Lines.{calls}
use Rattle.compiler.specs.Filling.{MarkedAt, Ahead}
use Rattle.compiler.specs.Scripts.{top, inside, between, goal}
use Rattle.compiler.specs.Emits.{Added}

-- the head is taken apart, and each structure before i has its arguments
abbrev pub Headed : Plan → ℕ → ℕ → Terming → Terming → Type 0
Headed p q i α ρ = (span α 1 (arity_at p.sig q) ≡ values p ρ (arity_at p.sig q) 0) × ((k : ℕ) → k < i → BuiltAt p ρ k)

-- the structures before i have been taken apart; n words stand before theirs
pub record HeadUpTo (p : Plan) (out out' : List ℕ) (n i end : ℕ) (s s' : List Bool) : Type 0 where
  pub size : ℕ
  pub left : ℕ
  pub run : Run p.after p.size left i end
  pub added : Added p.sig inside inside out out' size (λ α ρ. (k : ℕ) → k < i → BuiltAt p ρ k) (λ ρ. nil) s s'
  pub count : n + size ≡ i + left + before p i
  pub chain : (k : ℕ) → k < left → MarkedAt p s' (hop p.after k i)
  pub done : (k : ℕ) → k < i → MarkedAt p s' k
  pub ahead : Ahead p s' end p.size

-- the structures of a goal from i on have been built
pub record GoalDown (p : Plan) (out out' : List ℕ) (from i end : ℕ) (s s' : List Bool) : Type 0 where
  pub size : ℕ
  pub added : Added p.sig goal goal out out' size (λ α ρ. (k : ℕ) → i ≤ k → k < end → BuiltAt p ρ k) (λ ρ. nil) s s'
  pub count : (m : ℕ) → Run p.after p.size m i end → size + i + m + before p i ≡ end + before p end
  pub above : Ahead p s' from i
  pub ahead : Ahead p s' end p.size
  pub covered : (m : ℕ) → Run p.after p.size m i end → (k : ℕ) → i ≤ k → k < end → MarkedAt p s' k ⊎ ((r : ℕ) × (r < m) × (k ≡ hop p.after r i))

-- the goal q, whose arguments stand from `from` to `end`, has been added
pub record Goal (p : Plan) (q : ℕ) (out out' : List ℕ) (from end : ℕ) (s s' : List Bool) : Type 0 where
  pub size : ℕ
  pub added : Added p.sig between between out out' size (λ α ρ. (k : ℕ) → from ≤ k → k < end → BuiltAt p ρ k) (λ ρ. cons (node (name_at p.sig q) (values p ρ (arity_at p.sig q) from)) nil) s s'
  pub count : size + from + before p from ≡ suc (end + before p end)
  pub ahead : Ahead p s' end p.size
  pub done : (k : ℕ) → from ≤ k → k < end → MarkedAt p s' k

-- the place after the arguments of the predicates ps
abbrev pub past : Plan → List ℕ → ℕ → ℕ
past p [] j = j
past p (q ∷ ps) j = past p ps (hop p.after (arity_at p.sig q) j)

-- the first k goals have been added, and their arguments stand from `from` to `at`
pub record BodyUpTo (p : Plan) (ps : List ℕ) (out out' : List ℕ) (from k at : ℕ) (s s' : List Bool) : Type 0 where
  pub here : at ≡ past p (take k ps) from
  pub within : at ≤ p.size
  pub order : from ≤ at
  pub size : ℕ
  pub added : Added p.sig between between out out' size (λ α ρ. (i : ℕ) → from ≤ i → i < at → BuiltAt p ρ i) (λ ρ. calls p ρ (take k ps) from) s s'
  pub count : size + from + before p from ≡ k + at + before p at
  pub ahead : Ahead p s' at p.size
  pub done : (k : ℕ) → from ≤ k → k < at → MarkedAt p s' k

-- what the code of a clause has to say: its head is taken apart, and each structure has its arguments
abbrev pub Told : Plan → ℕ → Terming → Terming → Type 0
Told p q = Headed p q p.size

-- the head has been taken apart
pub record Opened (p : Plan) (q end : ℕ) (out out' : List ℕ) (s s' : List Bool) : Type 0 where
  pub here : end ≡ hop p.after (arity_at p.sig q) 0
  pub added : Added p.sig (top (arity_at p.sig q)) between out out' (end + before p end) (Headed p q end) (λ ρ. nil) s s'
  pub ahead : Ahead p s' end p.size
  pub done : (k : ℕ) → k < end → MarkedAt p s' k

-- the words of the clause have been added
pub record Written (p : Plan) (q : ℕ) (ps : List ℕ) (out out' : List ℕ) (s s' : List Bool) : Type 0 where
  pub added : Added p.sig (top (arity_at p.sig q)) between out out' (length ps + p.size + before p p.size) (Told p q) (λ ρ. calls p ρ ps (hop p.after (arity_at p.sig q) 0)) s s'
  pub done : (k : ℕ) → k < p.size → MarkedAt p s' k
