-- Names in words.
use Rattle.std.proofs.Common.{◌≡◌, ℕ, suc, ◌-◌, ◌*◌, ◌<◌, Bool, false, ◌&&◌, eqb, leb, List, [], ◌∷◌, length, get_or, take, drop, sym, refl, ap, ◌∙◌, ap₂, arith}
use Rattle.std.proofs.lemmas.List.{take_rest}
use Rattle.std.proofs.lemmas.Bool.{lt-leb, and_right}
use Rattle.lines.specs.Limits.{name_limit, arity_limit}
use Rattle.lines.specs.Words.{lower, namely, is_name}
use Rattle.lines.specs.Words.{every as all}
use Rattle.code.specs.Tests.{every}
use Rattle.image.specs.Bytes.{bytes_of}
use Rattle.std.specs.List.{list_all}
use Rattle.symbol_table.specs.Symbols.{Symbol}
use Rattle.image.specs.Symbols.{symbol_of, size_of, arity_of, name_words, proper}

abbrev pub zeros : List ℕ → Bool
zeros = every (λ b. eqb b 0)

pub length_bytes : (ws : List ℕ) → length (bytes_of ws) ≡ 4 * length ws
length_bytes [] = refl
length_bytes (w ∷ ws) = let ih = length_bytes ws in omega arith

pub all_zeros : (xs : List ℕ) → list_all (λ b. eqb b 0) xs ≡ zeros xs
all_zeros [] = refl
all_zeros (x ∷ xs) = ap (λ t. eqb x 0 && t) (all_zeros xs)

-- names that are too long
pub too_long : (f : List ℕ) → name_limit < length f → is_name f ≡ false
too_long [] h = absurd (omega arith)
too_long (b ∷ bs) h =
    ap (λ t. lower b && (t && all namely bs)) (lt-leb (suc (length bs)) name_limit h) ∙ and_right (lower b) false refl

-- the rest of a list, as `[first, rest @ ..]` has it
abbrev pub rest : List ℕ → List ℕ
rest xs = take (length xs - 1) (drop 1 xs)

abbrev pub symbol : List ℕ → ℕ → Symbol
symbol f n = record { name = f; arity = n }

pub proper_by : (xs : List ℕ) → 0 < length xs → (a b c d : Bool) → leb (arity_of (get_or xs 0 0)) arity_limit ≡ a → eqb (length (rest xs)) (name_words (get_or xs 0 0)) ≡ b
    → is_name (take (size_of (get_or xs 0 0)) (bytes_of (rest xs))) ≡ c → zeros (drop (size_of (get_or xs 0 0)) (bytes_of (rest xs))) ≡ d
    → proper xs ≡ ((a && b) && (c && d))
proper_by [] h a b c d p q r s = absurd (omega arith)
proper_by (x ∷ xs) h a b c d p q r s =
    ap (λ l. (leb (arity_of x) arity_limit && eqb (length l) (name_words x)) && (is_name (take (size_of x) (bytes_of l)) && zeros (drop (size_of x) (bytes_of l)))) (sym (take_rest (x ∷ xs) 1))
    ∙ ap₂ (λ (u v : Bool). (u && v) && (is_name (take (size_of (get_or (x ∷ xs) 0 0)) (bytes_of (rest (x ∷ xs)))) && zeros (drop (size_of (get_or (x ∷ xs) 0 0)) (bytes_of (rest (x ∷ xs)))))) p q
    ∙ ap₂ (λ (x y : Bool). (a && b) && (x && y)) r s

-- the symbol by its first word and the others
pub symbol_by : (xs : List ℕ) → 0 < length xs → (name : List ℕ) → name ≡ take (size_of (get_or xs 0 0)) (bytes_of (rest xs)) → symbol name (arity_of (get_or xs 0 0)) ≡ symbol_of xs
symbol_by [] h name e = absurd (omega arith)
symbol_by (x ∷ xs) h name e = ap (λ n. symbol n (arity_of x)) (e ∙ ap (λ (l : List ℕ). take (size_of x) (bytes_of l)) (take_rest (x ∷ xs) 1))
