-- Words, their bytes, and the words again.
use Rattle.std.proofs.Common.{◌≡◌, ℕ, suc, ◌+◌, ◌*◌, ◌/◌, ◌%◌, ◌^◌, ◌<◌, ◌≤◌, List, [], ◌∷◌, ◌++◌, map, w32, length, drop, sym, refl, ap, ◌∙◌, ap₂, append-nil, mod-eq_of_lt, div-add-mod', arith}
use native.Mathlib.Nat.{div-div-eq-div-mul}
use Rattle.std.specs.Int.{from_le_bytes}
use Rattle.std.specs.Simd.{first_chunks}
use Rattle.std.specs.List.{AllByRecursion}
use Rattle.std.proofs.lemmas.List.{at_drop_all}
use Rattle.image.specs.Bytes.{bytes_of, word_of, words_of}

atoms : (w r a r1 b r2 c r3 : ℕ) → a * 256 + r ≡ w → b * 256 + r1 ≡ a → c * 256 + r2 ≡ b → r3 ≡ c → word_of r r1 r2 r3 ≡ w
atoms w r a r1 b r2 c r3 e e1 e2 e3 = omega arith

-- a word is its four bytes
pub whole : (w : ℕ) → w < 2 ^ 32 → word_of (w % 256) (w / 256 % 256) (w / 65536 % 256) (w / 16777216 % 256) ≡ w
whole w h =
    let top : w / 16777216 < 256 = omega arith in
    atoms w (w % 256) (w / 256) (w / 256 % 256) (w / 65536) (w / 65536 % 256) (w / 16777216) (w / 16777216 % 256) (div-add-mod' w 256)
    (ap (λ q. q * 256 + w / 256 % 256) (sym (div-div-eq-div-mul w 256 256)) ∙ div-add-mod' (w / 256) 256)
    (ap (λ q. q * 256 + w / 65536 % 256) (sym (div-div-eq-div-mul w 65536 256)) ∙ div-add-mod' (w / 65536) 256)
    (mod-eq_of_lt top)

pub read_back : (ws : List ℕ) → AllByRecursion (λ w. w < 2 ^ 32) ws → words_of (bytes_of ws) ≡ ws
read_back [] h = refl
read_back (w ∷ ws) h = ap₂ ◌∷◌ (whole w h.0) (read_back ws h.1)

-- no word more
pub bytes_done : (out ws : List ℕ) (i : ℕ) → length ws ≤ i → out ++ bytes_of (drop i ws) ≡ out
bytes_done out ws i h = ap (λ l. out ++ l) (at_drop_all bytes_of ws i h) ∙ append-nil out

-- bytes by fours are words
pub words_by_fours : (bs : List ℕ) → map (from_le_bytes w32) (first_chunks 4 (length bs / 4) bs) ≡ words_of bs
words_by_fours [] = refl
words_by_fours (a ∷ []) = refl
words_by_fours (a ∷ b ∷ []) = refl
words_by_fours (a ∷ b ∷ c ∷ []) = refl
words_by_fours (a ∷ b ∷ c ∷ d ∷ bs) =
    let e : suc (suc (suc (suc (length bs)))) / 4 ≡ suc (length bs / 4) = omega arith in
    ap (λ n. map (from_le_bytes w32) (first_chunks 4 n (a ∷ b ∷ c ∷ d ∷ bs))) e ∙ ap (λ (l : List ℕ). word_of a b c d ∷ l) (words_by_fours bs)
