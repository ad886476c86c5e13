-- Words as bytes, four to a word, the lowest first.
use Rattle.std.specs.Prelude.{ℕ, ◌+◌, ◌*◌, ◌/◌, ◌%◌, List, [], ◌∷◌}

abbrev pub bytes_of : List ℕ → List ℕ
bytes_of [] = []
bytes_of (w ∷ ws) = (w % 256) ∷ (w / 256 % 256) ∷ (w / 65536 % 256) ∷ (w / 16777216 % 256) ∷ bytes_of ws

abbrev pub word_of : ℕ → ℕ → ℕ → ℕ → ℕ
word_of a b c d = a + b * 256 + c * 65536 + d * 16777216

-- the words of a file's bytes; what is left of less than four is no word
abbrev pub words_of : List ℕ → List ℕ
words_of [] = []
words_of (a ∷ []) = []
words_of (a ∷ b ∷ []) = []
words_of (a ∷ b ∷ c ∷ []) = []
words_of (a ∷ b ∷ c ∷ d ∷ rest) = word_of a b c d ∷ words_of rest

-- the words of a name's bytes, with zeros after them
abbrev pub packed : List ℕ → List ℕ
packed [] = []
packed (a ∷ []) = word_of a 0 0 0 ∷ []
packed (a ∷ b ∷ []) = word_of a b 0 0 ∷ []
packed (a ∷ b ∷ c ∷ []) = word_of a b c 0 ∷ []
packed (a ∷ b ∷ c ∷ d ∷ rest) = word_of a b c d ∷ packed rest
