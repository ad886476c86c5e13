-- Tokens as words, and the words of fields.
use Rattle.std.specs.Prelude.{ℕ, List, [], ◌∷◌, Some, None, Ok, Err, Option, Result}
use Rattle.lines.specs.declared.faults.FieldFault.{FieldFault}
use Rattle.lines.specs.declared.tokens.Token.{Token}
use Rattle.lines.specs.declared.tokens.Token.TheVariants.{Name, Structure, Variable}
use Rattle.horn.specs.Notation.{Word, name, structure, variable}
use Rattle.lines.specs.Words.{word_of}

-- the word that a token is
abbrev pub word : Token → Word
word (Name f) = name f.now
word (Structure f n) = structure f.now n
word (Variable f) = variable f.now

abbrev pub word_in : Result Token FieldFault → Result Word FieldFault
word_in (Ok t) = Ok (word t)
word_in (Err e) = Err e

abbrev pub before : Option Word → List Word → List Word
before (Some x) ws = x ∷ ws
before None ws = []

-- the words of the fields, up to a field that is none
abbrev pub words_of : List (List ℕ) → List Word
words_of [] = []
words_of (f ∷ fs) = before (word_of f) (words_of fs)
