-- A line's fields: commas part them, and a trailing comma makes an empty last one.
use Rattle.std.specs.Prelude.{ℕ, cond, List, [], ◌∷◌, ◌==◌}

abbrev pub onto : ℕ → List (List ℕ) → List (List ℕ)
onto b [] = (b ∷ []) ∷ []
onto b (f ∷ fs) = (b ∷ f) ∷ fs

abbrev pub split : List ℕ → List (List ℕ)
split [] = [] ∷ []
split (b ∷ bs) = cond (b == 44) ([] ∷ split bs) (onto b (split bs))

-- the fields after one, where its comma stands first
abbrev pub after : List ℕ → List (List ℕ)
after [] = []
after (b ∷ bs) = split bs
