-- A symbol's words say that symbol and no other.
use Rattle.std.proofs.Common.{◌≡◌, ℕ, zero, suc, ◌+◌, ◌*◌, ◌/◌, ◌%◌, ◌^◌, ◌<◌, ◌≤◌, true, ◌&&◌, ◌||◌, eqb, leb, List, [], ◌∷◌, ◌++◌, length, take, drop, sym, refl, ap, ◌∙◌, ap₂, ⊎_elim, arith}
use Rattle.std.specs.List.{AllByRecursion}
use Rattle.std.proofs.lemmas.List.{take_at, drop_at, length-take-le}
use Rattle.std.proofs.lemmas.Bool.{and_parts, and_from, or_cases, eqb-true, eq-eqb, leb-true, le-leb}
use Rattle.lines.specs.Limits.{name_limit, arity_limit}
use Rattle.lines.specs.Words.{lower, upper, digit, plain, namely, is_name}
use Rattle.lines.specs.Words.{every as all}
use Rattle.image.specs.Bytes.{bytes_of, word_of, packed}
use Rattle.symbol_table.specs.Symbols.{Symbol}
use Rattle.image.specs.Symbols.{symbol_words, symbol_of, arity_of, size_of, name_words, proper}
use Rattle.image.specs.Images.{Good}
use Rattle.image.proofs.FileLaws.{whole}
use Rattle.image.proofs.NameLaws.{zeros, length_bytes}

-- the bytes of a name
between : (a b x : ℕ) → (leb a x && leb x b) ≡ true → b < 256 → x < 256
between a b x h l = let u = leb-true x b (and_parts (leb a x) (leb x b) h).1 in omega arith

exactly : (x y : ℕ) → eqb x y ≡ true → y < 256 → x < 256
exactly x y h l = let u = eqb-true x y h in omega arith

plain_byte : (b : ℕ) → plain b ≡ true → b < 256
plain_byte b h =
    ⊎_elim
    (λ l. ⊎_elim (λ x. between 97 122 b x (omega arith)) (λ x. between 65 90 b x (omega arith)) (or_cases (lower b) (upper b) l))
    (λ r. ⊎_elim (λ x. between 48 57 b x (omega arith)) (λ x. exactly b 95 x (omega arith)) (or_cases (digit b) (eqb b 95) r))
    (or_cases (lower b || upper b) (digit b || eqb b 95) h)

namely_byte : (b : ℕ) → namely b ≡ true → b < 256
namely_byte b h =
    ⊎_elim (plain_byte b)
    (λ r. ⊎_elim (λ x. exactly b 46 x (omega arith)) (λ x. exactly b 45 x (omega arith)) (or_cases (eqb b 46) (eqb b 45) r))
    (or_cases (plain b) (eqb b 46 || eqb b 45) h)

all_bytes : (f : List ℕ) → all namely f ≡ true → AllByRecursion (λ b. b < 256) f
all_bytes [] h = tt
all_bytes (b ∷ bs) h = let p = and_parts (namely b) (all namely bs) h in (namely_byte b p.0, all_bytes bs p.1)

pub name_bytes_lem : (f : List ℕ) → is_name f ≡ true → AllByRecursion (λ b. b < 256) f
name_bytes_lem [] h = tt
name_bytes_lem (b ∷ bs) h =
    let p = and_parts (lower b) (leb (suc (length bs)) name_limit && all namely bs) h in
    let q = and_parts (leb (suc (length bs)) name_limit) (all namely bs) p.1 in
    (between 97 122 b p.0 (omega arith), all_bytes bs q.1)

pub name_short : (f : List ℕ) → is_name f ≡ true → length f ≤ name_limit
name_short [] h = cc
name_short (b ∷ bs) h =
    let p = and_parts (lower b) (leb (suc (length bs)) name_limit && all namely bs) h in
    leb-true (suc (length bs)) name_limit (and_parts (leb (suc (length bs)) name_limit) (all namely bs) p.1).0

-- a name's words and back
module _ (a b c d : ℕ) (la : a < 256) (lb : b < 256) (lc : c < 256) (ld : d < 256) where
  byte0 : word_of a b c d % 256 ≡ a
  byte0 = omega arith

  byte1 : word_of a b c d / 256 % 256 ≡ b
  byte1 = omega arith

  byte2 : word_of a b c d / 65536 % 256 ≡ c
  byte2 = omega arith

  byte3 : word_of a b c d / 16777216 % 256 ≡ d
  byte3 = omega arith

  bytes_word : (ws : List ℕ) → bytes_of (word_of a b c d ∷ ws) ≡ a ∷ b ∷ c ∷ d ∷ bytes_of ws
  bytes_word ws =
      ap₂ (λ (x y : ℕ). x ∷ y ∷ (word_of a b c d / 65536 % 256) ∷ (word_of a b c d / 16777216 % 256) ∷ bytes_of ws) byte0 byte1
      ∙ ap₂ (λ (x y : ℕ). a ∷ b ∷ x ∷ y ∷ bytes_of ws) byte2 byte3

-- the zeros after a name
abbrev padding : List ℕ → List ℕ
padding [] = []
padding (a ∷ []) = 0 ∷ 0 ∷ 0 ∷ []
padding (a ∷ b ∷ []) = 0 ∷ 0 ∷ []
padding (a ∷ b ∷ c ∷ []) = 0 ∷ []
padding (a ∷ b ∷ c ∷ d ∷ rest) = padding rest

bytes_packed : (f : List ℕ) → AllByRecursion (λ b. b < 256) f → bytes_of (packed f) ≡ f ++ padding f
bytes_packed [] h = refl
bytes_packed (a ∷ []) h = bytes_word a 0 0 0 h.0 (omega arith) (omega arith) (omega arith) []
bytes_packed (a ∷ b ∷ []) h = bytes_word a b 0 0 h.0 h.1.0 (omega arith) (omega arith) []
bytes_packed (a ∷ b ∷ c ∷ []) h = bytes_word a b c 0 h.0 h.1.0 h.1.1.0 (omega arith) []
bytes_packed (a ∷ b ∷ c ∷ d ∷ rest) h =
    bytes_word a b c d h.0 h.1.0 h.1.1.0 h.1.1.1.0 (packed rest) ∙ ap (λ (l : List ℕ). a ∷ b ∷ c ∷ d ∷ l) (bytes_packed rest h.1.1.1.1)

zero_padding : (f : List ℕ) → zeros (padding f) ≡ true
zero_padding [] = refl
zero_padding (a ∷ []) = refl
zero_padding (a ∷ b ∷ []) = refl
zero_padding (a ∷ b ∷ c ∷ []) = refl
zero_padding (a ∷ b ∷ c ∷ d ∷ rest) = zero_padding rest

pub length_packed : (f : List ℕ) → length (packed f) ≡ (length f + 3) / 4
length_packed [] = refl
length_packed (a ∷ []) = refl
length_packed (a ∷ b ∷ []) = refl
length_packed (a ∷ b ∷ c ∷ []) = refl
length_packed (a ∷ b ∷ c ∷ d ∷ rest) = let ih = length_packed rest in omega arith

-- words and their name
nil_zeros : (ws : List ℕ) → suc (length ws) ≡ 1 → ws ≡ []
nil_zeros [] h = refl
nil_zeros (w ∷ ws) h = absurd (omega arith)

pub packed_bytes : (ws : List ℕ) (n : ℕ) → AllByRecursion (λ w. w < 2 ^ 32) ws → length ws ≡ (n + 3) / 4 → zeros (drop n (bytes_of ws)) ≡ true → packed (take n (bytes_of ws)) ≡ ws
packed_bytes [] zero h l z = refl
packed_bytes [] (suc n) h l z = absurd (omega arith)
packed_bytes (w ∷ ws) zero h l z = absurd (omega arith)
packed_bytes (w ∷ ws) (suc zero) h l z =
    let b = w / 256 % 256 in
    let c = w / 65536 % 256 in
    let d = w / 16777216 % 256 in
    let p = and_parts (eqb b 0) (eqb c 0 && (eqb d 0 && zeros (bytes_of ws))) z in
    let q = and_parts (eqb c 0) (eqb d 0 && zeros (bytes_of ws)) p.1 in
    let r = and_parts (eqb d 0) (zeros (bytes_of ws)) q.1 in
    let eb = eqb-true b 0 p.0 in
    let ec = eqb-true c 0 q.0 in
    let ed = eqb-true d 0 r.0 in
    ap₂ ◌∷◌ (ap (λ k. word_of (w % 256) k 0 0) (sym eb) ∙ ap₂ (word_of (w % 256) b) (sym ec) (sym ed) ∙ whole w h.0) (sym (nil_zeros ws (omega arith)))
packed_bytes (w ∷ ws) (suc (suc zero)) h l z =
    let b = w / 256 % 256 in
    let c = w / 65536 % 256 in
    let d = w / 16777216 % 256 in
    let q = and_parts (eqb c 0) (eqb d 0 && zeros (bytes_of ws)) z in
    let r = and_parts (eqb d 0) (zeros (bytes_of ws)) q.1 in
    let ec = eqb-true c 0 q.0 in
    let ed = eqb-true d 0 r.0 in
    ap₂ ◌∷◌ (ap₂ (word_of (w % 256) b) (sym ec) (sym ed) ∙ whole w h.0) (sym (nil_zeros ws (omega arith)))
packed_bytes (w ∷ ws) (suc (suc (suc zero))) h l z =
    let b = w / 256 % 256 in
    let c = w / 65536 % 256 in
    let d = w / 16777216 % 256 in
    let r = and_parts (eqb d 0) (zeros (bytes_of ws)) z in
    let ed = eqb-true d 0 r.0 in
    ap₂ ◌∷◌ (ap (word_of (w % 256) b c) (sym ed) ∙ whole w h.0) (sym (nil_zeros ws (omega arith)))
packed_bytes (w ∷ ws) (suc (suc (suc (suc n)))) h l z =
    ap₂ ◌∷◌ (whole w h.0) (packed_bytes ws n h.1 (omega arith) z)

-- a good symbol's words
module _ (s : Symbol) (good : Good s) where
  pub size_is : size_of (s.arity * 256 + length s.name) ≡ length s.name
  size_is = let l = name_short s.name good.0 in omega arith

  pub arity_is : arity_of (s.arity * 256 + length s.name) ≡ s.arity
  arity_is = let l = name_short s.name good.0 in omega arith

  bytes_are : bytes_of (packed s.name) ≡ s.name ++ padding s.name
  bytes_are = bytes_packed s.name (name_bytes_lem s.name good.0)

  name_is : take (size_of (s.arity * 256 + length s.name)) (bytes_of (packed s.name)) ≡ s.name
  name_is = ap₂ (λ (n : ℕ) (l : List ℕ). take n l) size_is bytes_are ∙ take_at s.name (padding s.name) (length s.name) refl

  blank_is : drop (size_of (s.arity * 256 + length s.name)) (bytes_of (packed s.name)) ≡ padding s.name
  blank_is = ap₂ (λ (n : ℕ) (l : List ℕ). drop n l) size_is bytes_are ∙ drop_at s.name (padding s.name) (length s.name) refl

  pub words_length : length (packed s.name) ≡ name_words (s.arity * 256 + length s.name)
  words_length = length_packed s.name ∙ ap (λ n. (n + 3) / 4) (sym size_is)

  pub proper_symbol : proper (symbol_words s) ≡ true
  proper_symbol =
      let w = s.arity * 256 + length s.name in
      and_from (leb (arity_of w) arity_limit && eqb (length (packed s.name)) (name_words w)) (is_name (take (size_of w) (bytes_of (packed s.name))) && zeros (drop (size_of w) (bytes_of (packed s.name))))
      (and_from (leb (arity_of w) arity_limit) (eqb (length (packed s.name)) (name_words w)) (ap (λ k. leb k arity_limit) arity_is ∙ le-leb s.arity arity_limit good.1) (eq-eqb _ _ words_length))
      (and_from (is_name (take (size_of w) (bytes_of (packed s.name)))) (zeros (drop (size_of w) (bytes_of (packed s.name)))) (ap is_name name_is ∙ good.0) (ap zeros blank_is ∙ zero_padding s.name))

  pub symbol_words_lem : symbol_of (symbol_words s) ≡ s
  symbol_words_lem = ap₂ (λ (f : List ℕ) (n : ℕ). symbol f n) name_is arity_is
    where
      symbol : List ℕ → ℕ → Symbol
      symbol f n = record { name = f; arity = n }

-- proper words
pub words_good : (x : List ℕ) → proper x ≡ true → Good (symbol_of x)
words_good [] h = cc
words_good (w ∷ ws) h =
    let p = and_parts (leb (arity_of w) arity_limit && eqb (length ws) (name_words w)) (is_name (take (size_of w) (bytes_of ws)) && zeros (drop (size_of w) (bytes_of ws))) h in (
      (and_parts (is_name (take (size_of w) (bytes_of ws))) (zeros (drop (size_of w) (bytes_of ws))) p.1).0,
      leb-true (arity_of w) arity_limit (and_parts (leb (arity_of w) arity_limit) (eqb (length ws) (name_words w)) p.0).0,
    )

pub words_symbol : (x : List ℕ) → AllByRecursion (λ w. w < 2 ^ 32) x → proper x ≡ true → symbol_words (symbol_of x) ≡ x
words_symbol [] f h = cc
words_symbol (w ∷ ws) f h =
    let p = and_parts (leb (arity_of w) arity_limit && eqb (length ws) (name_words w)) (is_name (take (size_of w) (bytes_of ws)) && zeros (drop (size_of w) (bytes_of ws))) h in
    let n = eqb-true (length ws) (name_words w) (and_parts (leb (arity_of w) arity_limit) (eqb (length ws) (name_words w)) p.0).1 in
    let z = (and_parts (is_name (take (size_of w) (bytes_of ws))) (zeros (drop (size_of w) (bytes_of ws))) p.1).1 in
    let size : length (take (size_of w) (bytes_of ws)) ≡ size_of w = length-take-le (size_of w) (bytes_of ws) (omega (arith, length_bytes ws)) in
    let first : arity_of w * 256 + length (take (size_of w) (bytes_of ws)) ≡ w = omega arith in
    ap₂ ◌∷◌ first (packed_bytes ws (size_of w) f.1 n z)
