-- A field's bytes, and the word that they spell.
use Rattle.std.specs.Prelude.{◌≡◌, ℕ, suc, ◌+◌, ◌-◌, Bool, true, false, cond, ◌&&◌, ◌||◌, List, [], ◌∷◌, length, take, drop, Some, None, Option, ◌==◌, nat_le}
use Rattle.std.specs.List.{list_all}
use Rattle.horn.specs.Notation.{Word, name, structure, variable}
use Rattle.lines.specs.Limits.{name_limit, arity_limit}

abbrev pub lower : ℕ → Bool
lower b = nat_le 97 b && nat_le b 122

abbrev pub upper : ℕ → Bool
upper b = nat_le 65 b && nat_le b 90

abbrev pub digit : ℕ → Bool
digit b = nat_le 48 b && nat_le b 57

-- what may follow in a variable: letters, digits and `_`
abbrev pub plain : ℕ → Bool
plain b = (lower b || upper b) || (digit b || b == 95)

-- what may follow in a name: these, `.` and `-`
abbrev pub namely : ℕ → Bool
namely b = plain b || (b == 46 || b == 45)

abbrev pub every : (ℕ → Bool) → List ℕ → Bool
every p bs = list_all p bs

abbrev pub is_name : List ℕ → Bool
is_name [] = false
is_name (b ∷ bs) = lower b && (nat_le (suc (length bs)) name_limit && every namely bs)

abbrev pub is_variable : List ℕ → Bool
is_variable [] = false
is_variable (b ∷ bs) = (upper b || b == 95) && (nat_le (suc (length bs)) name_limit && every plain bs)

-- how many bytes stand before the first c
abbrev pub run : ℕ → List ℕ → ℕ
run c [] = 0
run c (b ∷ bs) = cond (b == c) 0 (suc (run c bs))

abbrev pub arity_of : List ℕ → ℕ → Option Word
arity_of f d = cond (is_name f && (nat_le 49 d && nat_le d (48 + arity_limit))) (Some (structure f (d - 48))) None

abbrev pub plainly : List ℕ → Option Word
plainly f = cond (is_name f) (Some (name f)) (cond (is_variable f) (Some (variable f)) None)

-- what stands before the slash, and what from it on
abbrev pub shape : List ℕ → List ℕ → Option Word
shape f [] = plainly f
shape f (s ∷ []) = None
shape f (s ∷ d ∷ []) = arity_of f d
shape f (s ∷ d ∷ x ∷ xs) = None

-- the word that a field spells, if it has one of the three forms
abbrev pub word_of : List ℕ → Option Word
word_of f = shape (take (run 47 f) f) (drop (run 47 f) f)

-- words that a field can spell
abbrev pub GoodWord : Word → Type 0
GoodWord (name f) = is_name f ≡ true
GoodWord (structure f n) = (is_name f ≡ true) × ((nat_le 1 n ≡ true) × (nat_le n arity_limit ≡ true))
GoodWord (variable v) = is_variable v ≡ true
