-- The numbers of symbols and variables, by first occurrence.
use Rattle.std.specs.Prelude.{ℕ, zero, suc, ◌+◌, ◌<◌, ◌≤◌, Bool, cond, ◌&&◌, List, [], ◌∷◌, ◌++◌, map, length, Some, None, Option, ◌==◌, nat_lt}
use Rattle.horn.specs.Terms.{Name}
use Rattle.horn.specs.Clauses.{Variable, named, blank, is_blank, called, meant}
use Rattle.horn.specs.Notation.{Word, name, structure, variable, arity}
use Rattle.horn.specs.Equations.{same_name}
use Rattle.symbol_table.specs.Symbols.{Symbol, Signature}

abbrev pub is_symbol : Symbol → Name → ℕ → Bool
is_symbol s f n = same_name s.name f && s.arity == n

-- the number of the first symbol with this name and arity, or how many there are
abbrev pub number_in : Signature → Name → ℕ → ℕ
number_in [] f n = 0
number_in (s ∷ sig) f n = cond (is_symbol s f n) 0 (suc (number_in sig f n))

abbrev pub found : Signature → Name → ℕ → Option ℕ
found sig f n = cond (nat_lt (number_in sig f n) (length sig)) (Some (number_in sig f n)) None

-- the symbols with this one, at the end if it is new
abbrev pub note_symbol : Signature → Name → ℕ → Signature
note_symbol sig f n = cond (nat_lt (number_in sig f n) (length sig)) sig (sig ++ record { name = f; arity = n } ∷ [])

abbrev pub note_word : Signature → Word → Signature
note_word sig (name f) = note_symbol sig f 0
note_word sig (structure f n) = note_symbol sig f n
note_word sig (variable v) = sig

-- the symbols with those of the words, by first occurrence
abbrev pub note_words : Signature → List Word → Signature
note_words sig [] = sig
note_words sig (w ∷ ws) = note_words (note_word sig w) ws

-- the symbol of a word that is no variable is known
abbrev pub Knows : Signature → Word → Type 0
Knows sig (name f) = number_in sig f 0 < length sig
Knows sig (structure f n) = number_in sig f n < length sig
Knows sig (variable v) = Unit {0}

abbrev pub Covers : Signature → List Word → Type 0
Covers sig [] = Unit {0}
Covers sig (w ∷ ws) = Knows sig w × Covers sig ws

-- a variable has at most 31 bytes
abbrev pub Short : Word → Type 0
Short (name f) = Unit {0}
Short (structure f n) = Unit {0}
Short (variable v) = length v ≤ 31

abbrev pub Shorts : List Word → Type 0
Shorts [] = Unit {0}
Shorts (w ∷ ws) = Short w × Shorts ws

-- variables as symbols without arguments
abbrev pub names_of : List Variable → Signature
names_of V = map (λ x. record { name = called x; arity = 0 }) V

abbrev pub blanks_in : List Variable → ℕ
blanks_in [] = 0
blanks_in (named v ∷ V) = blanks_in V
blanks_in (blank n ∷ V) = suc (blanks_in V)

-- the number of a variable after those noted: a `_` is a new one each time
abbrev pub number_of : List Variable → Name → ℕ
number_of V v = cond (is_blank v) (length V) (number_in (names_of V) v 0)

-- the number of a variable by its name, if it is no `_` and has been noted
abbrev pub known_variable : Signature → Name → Option ℕ
known_variable names v = cond (is_blank v) None (found names v 0)

abbrev pub noted : List Variable → Name → List Variable
noted V v = cond (nat_lt (number_of V v) (length V)) V (V ++ meant (blanks_in V) v ∷ [])

abbrev pub noted_by : List Variable → Word → List Variable
noted_by V (name f) = V
noted_by V (structure f n) = V
noted_by V (variable v) = noted V v

-- the variables after words, where n arguments are awaited and then a head or goal
abbrev pub variables_after : List Variable → ℕ → List Word → List Variable
variables_after V n [] = V
variables_after V zero (w ∷ ws) = variables_after V (arity w) ws
variables_after V (suc n) (w ∷ ws) = variables_after (noted_by V w) (arity w + n) ws
