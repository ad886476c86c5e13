-- Numbers with a comma before each, one after another.
use Rattle.std.proofs.Common.{◌≡◌, ℕ, ◌+◌, ◌<◌, ◌≤◌, leb, List, [], ◌∷◌, ◌++◌, map, length, get_or, drop, set, Some, None, decimal, sym, ap, ◌∙◌, ap₂, arith}
use Rattle.std.proofs.lemmas.List.{at_drop_more, length-append}
use Rattle.std.proofs.lemmas.Bool.{cond-true, cond-false, le-leb, lt-leb}
use Rattle.horn.specs.Notation.{tails}
use Rattle.text.specs.Buffers.{wrote, fitting, filled}
use Rattle.text.proofs.Wrote.{wrote_one, wrote_more}

-- the numbers from i on
abbrev pub left : List ℕ → ℕ → List ℕ
left ns i = tails (map decimal (drop i ns))

module _ (ns : List ℕ) (i : ℕ) where
  pub left_more : i < length ns → left ns i ≡ 44 ∷ (decimal (get_or ns i 0) ++ left ns (i + 1))
  left_more h = at_drop_more (λ xs. tails (map decimal xs)) ns i 0 h

  pub length_more : i < length ns → length (left ns i) ≡ (length (decimal (get_or ns i 0)) + 1) + length (left ns (i + 1))
  length_more h = ap length (left_more h) ∙ omega (arith, length-append (decimal (get_or ns i 0)) (left ns (i + 1)))

  -- one number more is written
  pub put_more : (out : List ℕ) (end : ℕ) → i < length ns → end + length (left ns i) ≤ length out
      → wrote (wrote (set out end 44) (end + 1) (decimal (get_or ns i 0))) (end + 1 + length (decimal (get_or ns i 0))) (left ns (i + 1)) ≡ wrote out end (left ns i)
  put_more out end h fits =
      let d = decimal (get_or ns i 0) in
      let rest = left ns (i + 1) in
      let size = length_more h in
      let comma : set out end 44 ≡ wrote out end (44 ∷ []) = wrote_one out end 44 (omega (arith, size, fits)) in
      let number : wrote (set out end 44) (end + 1) d ≡ wrote out end (44 ∷ d) = ap (λ o. wrote o (end + 1) d) comma ∙ wrote_more out end (44 ∷ []) d (omega (arith, size, fits)) in
      let at : end + 1 + length d ≡ end + length (44 ∷ d) = omega arith in
      ap₂ (λ o k. wrote o k rest) number at
      ∙ wrote_more out end (44 ∷ d) rest (omega (arith, size, fits))
      ∙ ap (wrote out end) (sym (left_more h))

pub fits_all : (line : List ℕ) (limit n : ℕ) → n ≡ length line → n ≤ limit → Some n ≡ fitting line limit
fits_all line limit n e h = ap Some e ∙ sym (cond-true (leb (length line) limit) _ _ (le-leb (length line) limit (omega arith)))

pub fits_not : (line : List ℕ) (limit : ℕ) → limit < length line → None ≡ fitting line limit
fits_not line limit h = sym (cond-false (leb (length line) limit) _ _ (lt-leb (length line) limit h))

-- a line that fits is written, and one that does not leaves the buffer as it was
pub filled_fits : (line buffer : List ℕ) → length line ≤ length buffer → wrote buffer 0 line ≡ filled line buffer
filled_fits line buffer h = ap (λ k. line ++ drop k buffer) {x = 0 + length line} {y = length line} (omega arith) ∙ sym (cond-true (leb (length line) (length buffer)) _ _ (le-leb (length line) (length buffer) h))

pub filled_not : (line buffer : List ℕ) → length buffer < length line → buffer ≡ filled line buffer
filled_not line buffer h = sym (cond-false (leb (length line) (length buffer)) _ _ (lt-leb (length line) (length buffer) h))
