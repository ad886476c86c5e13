-- How terms and numbers are written: as fields, in prefix order, that commas part.
use Rattle.std.specs.Prelude.{ℕ, zero, suc, ◌+◌, List, [], ◌∷◌, ◌++◌, map, decimal}
use Rattle.horn.specs.Terms.{Name, Term, Terms, var, node, nil, cons, count}

-- a field: a name alone, a name with an arity, or a variable
pub data Word : Type 0 where
  name : Name → Word
  structure : Name → ℕ → Word
  variable : Name → Word

-- the bytes of a word: an arity follows a slash
abbrev pub field : Word → List ℕ
field (name f) = f
field (structure f n) = f ++ 47 ∷ (48 + n) ∷ []
field (variable v) = v

-- how many terms follow a word
abbrev pub arity : Word → ℕ
arity (name f) = 0
arity (structure f n) = n
arity (variable v) = 0

abbrev pub word_for : Name → ℕ → Word
word_for f zero = name f
word_for f (suc n) = structure f (suc n)

-- the words of a term, and after them ws
abbrev mutual
  pub words : Term Name → List Word → List Word
  words (var v) ws = variable v ∷ ws
  words (node f ts) ws = word_for f (count ts) ∷ wordss ts ws

  pub wordss : Terms Name → List Word → List Word
  wordss nil ws = ws
  wordss (cons t ts) ws = words t (wordss ts ws)

-- fields with a comma before each
abbrev pub tails : List (List ℕ) → List ℕ
tails [] = []
tails (f ∷ fs) = 44 ∷ (f ++ tails fs)

-- fields with a comma between each two
abbrev pub joined : List (List ℕ) → List ℕ
joined [] = []
joined (f ∷ fs) = f ++ tails fs

-- a letter and numbers
abbrev pub numbered : ℕ → List ℕ → List ℕ
numbered letter ns = letter ∷ tails (map decimal ns)

-- `N`, after the end
abbrev pub tally_line : ℕ → ℕ → List ℕ
tally_line answers spent = numbered 78 (answers ∷ spent ∷ [])

-- `H`, after a halt
abbrev pub halt_line : ℕ → ℕ → ℕ → List ℕ
halt_line number answers spent = numbered 72 (number ∷ answers ∷ spent ∷ [])

-- `R`, for a call that is declined
abbrev pub fault_line : ℕ → ℕ → ℕ → ℕ → List ℕ
fault_line number layer at rule = numbered 82 (number ∷ layer ∷ at ∷ rule ∷ [])
