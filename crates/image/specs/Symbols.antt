-- The symbols of an image.
use Rattle.std.specs.Prelude.{ℕ, zero, suc, ◌+◌, ◌*◌, ◌/◌, ◌%◌, Bool, true, false, cond, not, ◌&&◌, List, [], ◌∷◌, ◌++◌, length, take, drop, Some, None, Ok, Err, Option, Result, ◌==◌, nat_eq, nat_le}
use Rattle.lines.specs.Limits.{arity_limit}
use Rattle.lines.specs.Words.{is_name}
use Rattle.code.specs.Tests.{every, some}
use Rattle.symbol_table.specs.Symbols.{Symbol}
use Rattle.image.specs.Bytes.{bytes_of, packed}

-- its words: arity * 256 + name length, and then the name's bytes
abbrev pub symbol_words : Symbol → List ℕ
symbol_words s = (s.arity * 256 + length s.name) ∷ packed s.name

-- what a first word says
abbrev pub arity_of : ℕ → ℕ
arity_of w = w / 256

abbrev pub size_of : ℕ → ℕ
size_of w = w % 256

abbrev pub name_words : ℕ → ℕ
name_words w = (size_of w + 3) / 4

-- the symbol that words are
abbrev pub symbol_of : List ℕ → Symbol
symbol_of [] = record { name = []; arity = 0 }
symbol_of (w ∷ ws) = record { name = take (size_of w) (bytes_of ws); arity = arity_of w }

-- how many of the words the first symbol should have
abbrev pub extent : List ℕ → ℕ
extent [] = 0
extent (w ∷ ws) = 1 + name_words w

-- the words of the first n symbols, where one that is cut off has too few, and the words after them
abbrev pub symbols_of : ℕ → List ℕ → List (List ℕ)
symbols_of zero ws = []
symbols_of (suc n) ws = take (extent ws) ws ∷ symbols_of n (drop (extent ws) ws)

abbrev pub after_symbols : ℕ → List ℕ → List ℕ
after_symbols zero ws = ws
after_symbols (suc n) ws = after_symbols n (drop (extent ws) ws)

-- not cut off, arity and name right, zeros after the name
abbrev pub proper : List ℕ → Bool
proper [] = false
proper (w ∷ ws) =
    (nat_le (arity_of w) arity_limit && length ws == name_words w)
    && (is_name (take (size_of w) (bytes_of ws)) && every (λ b. nat_eq b 0) (drop (size_of w) (bytes_of ws)))

abbrev pub same : List ℕ → List ℕ → Bool
same [] [] = true
same [] (y ∷ ys) = false
same (x ∷ xs) [] = false
same (x ∷ xs) (y ∷ ys) = x == y && same xs ys

-- the lowest symbol that is not proper, or that repeats an earlier one
abbrev pub symbol_fault : List (List ℕ) → List (List ℕ) → Option ℕ
symbol_fault earlier [] = None
symbol_fault earlier (x ∷ xs) = cond (proper x && not (some (same x) earlier)) (symbol_fault (earlier ++ x ∷ []) xs) (Some (length earlier))

abbrev pub arity : List ℕ → ℕ
arity [] = 0
arity (w ∷ ws) = arity_of w

abbrev pub err_part : {X E : Type 0} → Result X E → Option E
err_part (Ok x) = None
err_part (Err e) = Some e
