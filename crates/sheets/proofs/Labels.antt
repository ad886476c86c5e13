-- Labels of unbound variables: each is a variable's name, and no two variables have one.
use Rattle.std.proofs.Common.{◌≡◌, ℕ, suc, ◌+◌, ◌%◌, ◌^◌, ◌<◌, Bool, true, false, cond, ◌||◌, eqb, leb, List, [], ◌∷◌, ◌++◌, length, decimal, sym, refl, ◌∙◌, subst, inl, inr, arith}
use Rattle.std.proofs.lemmas.Fmt.{decimal_by_steps, length-decimal-le, decimal_injective}
use Rattle.std.proofs.lemmas.Bool.{and_from, and_parts, or_left, or_right, le-leb, eq-eqb, eqb-true}
use Rattle.horn.specs.Terms.{Term, Terms, var, node, nil, cons}
use Rattle.horn.specs.Answers.{Occurs, OccursIn, note, place, through, throughs, unbound, label, label_in}
use Rattle.horn.proofs.Lines.{throughs_keeps}
use Rattle.lines.specs.Words.{lower, upper, digit, plain, every, is_variable}

every_append : (p : ℕ → Bool) (xs ys : List ℕ) → every p xs ≡ true → every p ys ≡ true → every p (xs ++ ys) ≡ true
every_append p [] ys h k = k
every_append p (x ∷ xs) ys h k = let q = and_parts (p x) (every p xs) h in and_from (p x) (every p (xs ++ ys)) q.0 (every_append p xs ys q.1 k)

digit_plain : (n : ℕ) → n < 10 → every plain ((48 + n) ∷ []) ≡ true
digit_plain n h =
    let d : digit (48 + n) ≡ true = and_from (leb 48 (48 + n)) (leb (48 + n) 57) (le-leb 48 (48 + n) (omega arith)) (le-leb (48 + n) 57 (omega arith)) in
    and_from (plain (48 + n)) true (or_right (lower (48 + n) || upper (48 + n)) (digit (48 + n) || eqb (48 + n) 95) (or_left (digit (48 + n)) (eqb (48 + n) 95) d)) refl

pub decimal_plain : (n : ℕ) → n < 2 ^ 64 → every plain (decimal n) ≡ true
decimal_plain n h =
    decimal_by_steps (λ n ds. every plain ds ≡ true) digit_plain (λ n ds l e. every_append plain ds ((48 + n % 10) ∷ []) e (digit_plain (n % 10) (omega arith))) n h

label_variable : (n : ℕ) → suc n < 2 ^ 64 → is_variable (label n) ≡ true
label_variable n h =
    and_from (leb (suc (length (decimal (suc n)))) 31) (every plain (decimal (suc n)))
    (le-leb (suc (length (decimal (suc n)))) 31 (omega (arith, length-decimal-le 30 (suc n) (omega arith) (omega arith) h)))
    (decimal_plain (suc n) h)

label_apart : (m n : ℕ) → suc m < 2 ^ 64 → suc n < 2 ^ 64 → label m ≡ label n → m ≡ n
label_apart m n h k e = let d : decimal (suc m) ≡ decimal (suc n) = cc in omega (arith, decimal_injective (suc m) (suc n) h k d)

place_apart : (x y : ℕ) (us : List ℕ) → place eqb x us < length us → place eqb x us ≡ place eqb y us → x ≡ y
place_apart x y [] l e = absurd (omega arith)
place_apart x y (u ∷ us) l e = go (place_apart x y us) (eqb u x) (eqb u y) refl refl l e
  where
    go : (place eqb x us < length us → place eqb x us ≡ place eqb y us → x ≡ y) → (s t : Bool) → eqb u x ≡ s → eqb u y ≡ t
        → cond s 0 (suc (place eqb x us)) < suc (length us) → cond s 0 (suc (place eqb x us)) ≡ cond t 0 (suc (place eqb y us)) → x ≡ y
    go ih true true p q l e = sym (eqb-true u x p) ∙ eqb-true u y q
    go ih true false p q l e = absurd (omega arith)
    go ih false true p q l e = absurd (omega arith)
    go ih false false p q l e = ih (omega arith) (omega arith)

-- x is one of those seen
abbrev Seen : ℕ → List ℕ → Type 0
Seen x us = place eqb x us < length us

seen_note : (x : ℕ) (us : List ℕ) → Seen x (note eqb x us)
seen_note x [] = subst (λ b. cond b 0 (suc 0) < 1) (sym (eq-eqb x x refl)) (omega arith)
seen_note x (u ∷ us) = go (seen_note x us) (eqb u x)
  where
    go : Seen x (note eqb x us) → (b : Bool) → cond b 0 (suc (place eqb x (cond b us (note eqb x us)))) < suc (length (cond b us (note eqb x us)))
    go ih true = omega arith
    go ih false = omega arith

seen_more : (x y : ℕ) (us : List ℕ) → Seen x us → Seen x (note eqb y us)
seen_more x y [] h = absurd (omega arith)
seen_more x y (u ∷ us) h = go (seen_more x y us) (eqb u x) (eqb u y) h
  where
    go : (Seen x us → Seen x (note eqb y us)) → (a b : Bool) → cond a 0 (suc (place eqb x us)) < suc (length us) → cond a 0 (suc (place eqb x (cond b us (note eqb y us)))) < suc (length (cond b us (note eqb y us)))
    go ih true b h = omega arith
    go ih false true h = h
    go ih false false h = let k : Seen x us = omega arith in omega (arith, ih k)

mutual
  seen_in : (t : Term ℕ) (x : ℕ) (us : List ℕ) → Occurs x t → Seen x (through (note eqb) t us)
  seen_in (var y) x us o = subst (λ z. Seen x (note eqb z us)) o (seen_note x us)
  seen_in (node f ts) x us o = seens_in ts x us o

  seens_in : (ts : Terms ℕ) (x : ℕ) (us : List ℕ) → OccursIn x ts → Seen x (throughs (note eqb) ts us)
  seens_in nil x us o = absurd o
  seens_in (cons t ts) x us (inl o) = throughs_keeps (note eqb) (Seen x) ts (λ y p vs h. seen_more x y vs h) (through (note eqb) t us) (seen_in t x us o)
  seens_in (cons t ts) x us (inr o) = seens_in ts x (through (note eqb) t us) o

-- the labels of the variables of some terms, fewer than 2 ^ 64
module _ (ts : Terms ℕ) (few : length (unbound ts) < 2 ^ 64) where
  pub label_good : (x : ℕ) → OccursIn x ts → is_variable (label_in (unbound ts) x) ≡ true
  label_good x o = label_variable (place eqb x (unbound ts)) (omega (arith, seens_in ts x [] o))

  pub label_one : (x y : ℕ) → OccursIn x ts → OccursIn y ts → label_in (unbound ts) x ≡ label_in (unbound ts) y → x ≡ y
  label_one x y o p e =
      let h : Seen x (unbound ts) = seens_in ts x [] o in
      let k : Seen y (unbound ts) = seens_in ts y [] p in
      place_apart x y (unbound ts) h (label_apart (place eqb x (unbound ts)) (place eqb y (unbound ts)) (omega arith) (omega arith) e)
