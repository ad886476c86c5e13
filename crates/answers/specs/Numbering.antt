-- A table of numbers by first appearance.
use Rattle.std.specs.Prelude.{◌≡◌, ℕ, suc, ◌<◌, ◌≤◌, cond, List, [], ◌∷◌, length, Option, Some, None, nat_eq, nat_lt, slice_index_or}
use Rattle.horn.specs.Answers.{place}

-- the number of v, from 1, where the variables us have appeared; none if it has not
abbrev pub given : List ℕ → ℕ → Option ℕ
given us v = cond (nat_lt (place nat_eq v us) (length us)) (Some (suc (place nat_eq v us))) None

-- the table has the numbers of the variables us
pub record Numbered (us : List ℕ) (numbers : List (Option ℕ)) (seen : ℕ) : Type 0 where
  pub counted : seen ≡ length us
  pub each : (v : ℕ) → v < length numbers → slice_index_or numbers v None ≡ given us v

-- how many have a number
abbrev pub marked : List (Option ℕ) → ℕ
marked [] = 0
marked (None ∷ xs) = marked xs
marked (Some n ∷ xs) = suc (marked xs)

-- the later table has no numbers of the first n cells, and of the others it has those of the earlier one
pub record Without (n : ℕ) (earlier later : List (Option ℕ)) : Type 0 where
  pub gone : (v : ℕ) → v < n → slice_index_or later v None ≡ None
  pub others : (v : ℕ) → n ≤ v → slice_index_or later v None ≡ slice_index_or earlier v None
