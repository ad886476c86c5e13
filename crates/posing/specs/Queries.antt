-- The words of a query in prefix order, and the terms that they stand for.
use Rattle.std.specs.Prelude.{◌≡◌, ℕ, ◌+◌, ◌-◌, ◌<◌, ◌≤◌, ◌⊎◌, List, [], ◌∷◌, length, slice_index}
use Rattle.horn.specs.Terms.{Terms, node, nil, cons, front, back}
use Rattle.code.specs.Meaning.{Symbols, Terming}
use Rattle.posing.specs.declared.pieces.Piece.{Piece}
use Rattle.posing.specs.declared.pieces.Piece.TheVariants.{Constant, Variable, Structure, Goal}

-- from the right: the terms that are not yet an argument, where σ has the variables
abbrev pub stack : Symbols → Terming → List Piece → Terms ℕ
stack s σ [] = nil
stack s σ (Constant c ∷ ps) = cons (node (s.name c) nil) (stack s σ ps)
stack s σ (Variable y ∷ ps) = cons (σ y) (stack s σ ps)
stack s σ (Structure f n ∷ ps) = cons (node (s.name f) (front n (stack s σ ps))) (back n (stack s σ ps))
stack s σ (Goal p n ∷ ps) = back n (stack s σ ps)

-- the goals
abbrev pub goals_of : Symbols → Terming → List Piece → Terms ℕ
goals_of s σ [] = nil
goals_of s σ (Constant c ∷ ps) = goals_of s σ ps
goals_of s σ (Variable y ∷ ps) = goals_of s σ ps
goals_of s σ (Structure f n ∷ ps) = goals_of s σ ps
goals_of s σ (Goal p n ∷ ps) = cons (node (s.name p) (front n (stack s σ ps))) (goals_of s σ ps)

-- how many terms wait
abbrev pub waits : List Piece → ℕ
waits [] = 0
waits (Constant c ∷ ps) = 1 + waits ps
waits (Variable y ∷ ps) = 1 + waits ps
waits (Structure f n ∷ ps) = 1 + (waits ps - n)
waits (Goal p n ∷ ps) = waits ps - n

abbrev pub asked : List Piece → ℕ
asked [] = 0
asked (Constant c ∷ ps) = asked ps
asked (Variable y ∷ ps) = asked ps
asked (Structure f n ∷ ps) = asked ps
asked (Goal p n ∷ ps) = 1 + asked ps

-- the variable y is one of the words
abbrev pub Occurs : ℕ → List Piece → Type 0
Occurs y [] = ⊥
Occurs y (Constant c ∷ ps) = Occurs y ps
Occurs y (Variable z ∷ ps) = (y ≡ z) ⊎ Occurs y ps
Occurs y (Structure f n ∷ ps) = Occurs y ps
Occurs y (Goal p n ∷ ps) = Occurs y ps

-- the cells that they cost
abbrev pub weighs : List Piece → ℕ
weighs [] = 0
weighs (Constant c ∷ ps) = 1 + weighs ps
weighs (Variable y ∷ ps) = 1 + weighs ps
weighs (Structure f n ∷ ps) = 2 + weighs ps
weighs (Goal p n ∷ ps) = weighs ps

-- the words are a query: symbols of the table with their arities, m variables, and no argument lacks
abbrev pub Fit : List ℕ → ℕ → List Piece → Type 0
Fit table m [] = Unit {0}
Fit table m (Constant c ∷ ps) = (c < length table) × (slice_index table c ≡ 0) × Fit table m ps
Fit table m (Variable y ∷ ps) = (y < m) × Fit table m ps
Fit table m (Structure f n ∷ ps) = (f < length table) × (slice_index table f ≡ n) × (n ≤ waits ps) × Fit table m ps
Fit table m (Goal p n ∷ ps) = (p < length table) × (slice_index table p ≡ n) × (n ≤ waits ps) × Fit table m ps

-- the same of one word, where so many terms wait
abbrev pub FitOne : List ℕ → ℕ → ℕ → Piece → Type 0
FitOne table m count (Constant c) = (c < length table) × (slice_index table c ≡ 0)
FitOne table m count (Variable y) = y < m
FitOne table m count (Structure f n) = (f < length table) × (slice_index table f ≡ n) × (n ≤ count)
FitOne table m count (Goal p n) = (p < length table) × (slice_index table p ≡ n) × (n ≤ count)
