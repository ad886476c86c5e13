-- Tests of lists.
use Rattle.std.specs.Prelude.{ℕ, zero, suc, Bool, true, false, cond, ◌&&◌, List, [], ◌∷◌, Some, None, Option, ◌==◌}
use Rattle.std.specs.List.{list_all, list_any}

abbrev pub every : {X : Type 0} → (X → Bool) → List X → Bool
every p xs = list_all p xs

abbrev pub some : {X : Type 0} → (X → Bool) → List X → Bool
some p xs = list_any p xs

-- how many there are
abbrev pub total : {X : Type 0} → (X → Bool) → List X → ℕ
total p [] = 0
total p (x ∷ xs) = cond (p x) (suc (total p xs)) (total p xs)

-- how many stand at the front
abbrev pub run : {X : Type 0} → (X → Bool) → List X → ℕ
run p [] = 0
run p (x ∷ xs) = cond (p x) (suc (run p xs)) 0

-- each element with those after it
abbrev pub along : {X : Type 0} → (X → List X → Bool) → List X → Bool
along p [] = true
along p (x ∷ xs) = p x xs && along p xs

-- each element with its place
abbrev pub each_at : {X : Type 0} → (ℕ → X → Bool) → List X → Bool
each_at p [] = true
each_at p (x ∷ xs) = p 0 x && each_at (λ j. p (suc j)) xs

-- all numbers below n
abbrev pub below : ℕ → (ℕ → Bool) → Bool
below zero p = true
below (suc n) p = below n p && p n

abbrev pub chosen : {X Y : Type 0} → Option X → (X → Y) → Y → Y
chosen None f d = d
chosen (Some x) f d = f x

abbrev pub is : Option ℕ → ℕ → Bool
is None y = false
is (Some z) y = z == y
