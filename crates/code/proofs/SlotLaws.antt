-- V5 as a pass.
use Rattle.std.proofs.Common.{◌≡◌, ℕ, zero, suc, ◌+◌, ◌<◌, ◌≤◌, Bool, true, false, cond, ◌&&◌, ◌||◌, eqb, leb, List, [], ◌∷◌, map, length, get_or, take, drop, set, replicate, Some, None, Option, is_some, is_none, sym, refl, ap, ◌∙◌, ap₂, inl, inr, add-one, arith}
use Rattle.std.proofs.lemmas.List.{get_or-set_same, get_or-set_other, get_or-replicate, get_or_past, length-set, length-replicate, at_drop_more}
use Rattle.std.specs.List.{list_all}
use Rattle.std.proofs.lemmas.List.Folds.{list_all_more}
use Rattle.std.proofs.Math.Bool.{and-true}
use Rattle.std.proofs.lemmas.Bool.{eq-eqb, ne_eqb, and_right, and_parts, ltb-true, leb-true, leb-false, le-leb, lt-leb, cases_eq, cases_lt, cond-true, cond-false}
use Rattle.code.specs.declared.instructions.Instruction.{Instruction}
use Rattle.code.specs.Instructions.{sets, reads}
use Rattle.code.specs.Words.{decode}
use Rattle.code.specs.Tests.{every, total, below, each_at, is}
use Rattle.code.specs.Rules.{builds, set_before, ready, v5}
use Rattle.code.specs.Passes.{held, can_read, can_set, marked, slot_pass, inside}

pub below_ext : (n : ℕ) (p q : ℕ → Bool) → ((y : ℕ) → y < n → p y ≡ q y) → below n p ≡ below n q
below_ext zero p q h = refl
below_ext (suc n) p q h = ap₂ (λ (x y : Bool). x && y) (below_ext n p q (λ y l. h y (omega arith))) (h n (omega arith))

pub below_false : (n : ℕ) (p : ℕ → Bool) (y : ℕ) → y < n → p y ≡ false → below n p ≡ false
below_false zero p y l e = absurd (omega arith)
below_false (suc n) p y l e =
    elim (cases_eq y n) [
      | inl q ↦ and_right (below n p) (p n) (ap p (sym q) ∙ e)
      | inr ne ↦ ap (λ t. t && p n) (below_false n p y (omega arith) e)
    ]

pub each_ext : {X : Type 0} (xs : List X) (p q : ℕ → X → Bool) → ((j : ℕ) (x : X) → p j x ≡ q j x) → each_at p xs ≡ each_at q xs
each_ext [] p q h = refl
each_ext (x ∷ xs) p q h = ap₂ (λ (a b : Bool). a && b) (h 0 x) (each_ext xs (λ j. p (suc j)) (λ j. q (suc j)) (λ j y. h (suc j) y))

abbrev pub noted : Option ℕ → ℕ
noted None = 0
noted (Some t) = 1

none_noted : (t : Option ℕ) → is_none t ≡ true → noted t ≡ 0
none_noted None e = refl
none_noted (Some t) e = cc

some_noted : (t : Option ℕ) → is_none t ≡ false → noted t ≡ 1
some_noted None e = cc
some_noted (Some t) e = refl

none_held : (t : Option ℕ) (i : ℕ) → is_none t ≡ true → held t i ≡ false
none_held None i e = refl
none_held (Some t) i e = cc

-- the library's test of the first n
pub all_below : (n : ℕ) (T : List (Option ℕ)) → n ≤ length T → list_all is_some (take n T) ≡ below n (λ y. is_some (get_or T y None))
all_below zero T h = refl
all_below (suc n) T h =
    let e = list_all_more is_some T n None (omega arith) in
    rw (← add-one) (e ∙ ap (λ t. t && is_some (get_or T n None)) (all_below n T (omega arith)))

abbrev times : ℕ → List Instruction → ℕ
times y ws = total (λ w. is (sets w) y) ws

module _ (n : ℕ) (arities : List ℕ) where
  -- what is left to hold, from a state
  abbrev once : List (Option ℕ) → List Instruction → ℕ → Bool
  once T ws y = eqb (times y ws + noted (get_or T y None)) 1

  abbrev late : ℕ → List (Option ℕ) → List Instruction → ℕ → Option ℕ → Bool
  late i T ws j None = true
  late i T ws j (Some y) = held (get_or T y None) (i + j) || set_before arities ws y j

  unmarked : (t : Option ℕ) → is_some t ≡ eqb (0 + noted t) 1
  unmarked None = refl
  unmarked (Some t) = refl

  -- the first word's reading
  read_first : (i : ℕ) (T : List (Option ℕ)) (w : Instruction) (ws : List Instruction) (o : Option ℕ) → can_read T i o ≡ late i T (w ∷ ws) 0 o
  read_first i T w ws None = refl
  read_first i T w ws (Some y) =
      let e : i ≡ i + 0 = omega arith in
      ap (held (get_or T y None)) e ∙ or_false (held (get_or T y None) (i + 0))
    where
      or_false : (x : Bool) → x ≡ (x || false)
      or_false true = refl
      or_false false = refl

  module _ (i : ℕ) (T : List (Option ℕ)) (w : Instruction) (ws : List Instruction) (long : n ≤ length T) where
    abbrev next : Option ℕ → List (Option ℕ)
    next o = marked T o (i + 1 + builds arities w)

    counted : (o : Option ℕ) → sets w ≡ o → inside n o ≡ true → can_set T o ≡ true → (y : ℕ) → times y (w ∷ ws) + noted (get_or T y None) ≡ times y ws + noted (get_or (next o) y None)
    counted None e l f y = ap (λ o. cond (is o y) (suc (times y ws)) (times y ws) + noted (get_or T y None)) e
    counted (Some z) e l f y =
        let zl = ltb-true z n l in
        let t = i + 1 + builds arities w in
        ap (λ o. cond (is o y) (suc (times y ws)) (times y ws) + noted (get_or T y None)) e
        ∙ elim (cases_eq z y) [
          | inl q ↦
              let at : get_or (set T z (Some t)) y None ≡ Some t = ap (λ k. get_or (set T z (Some t)) k None) (sym q) ∙ get_or-set_same T z (Some t) None (omega arith) in
              let off : noted (get_or T y None) ≡ 0 = none_noted (get_or T y None) (ap (λ k. is_none (get_or T k None)) (sym q) ∙ f) in
              let on : noted (get_or (set T z (Some t)) y None) ≡ 1 = ap noted at in
              let yes : cond (eqb z y) (suc (times y ws)) (times y ws) ≡ suc (times y ws) = cond-true (eqb z y) _ _ (eq-eqb z y q) in
              omega arith
          | inr ne ↦
              let at : get_or (set T z (Some t)) y None ≡ get_or T y None = get_or-set_other T z y (Some t) None (λ x. ne (sym x)) in
              let same : noted (get_or (set T z (Some t)) y None) ≡ noted (get_or T y None) = ap noted at in
              let no : cond (eqb z y) (suc (times y ws)) (times y ws) ≡ times y ws = cond-false (eqb z y) _ _ (ne_eqb z y ne) in
              omega arith
        ]

    twice : (z : ℕ) → sets w ≡ Some z → inside n (Some z) ≡ true → can_set T (Some z) ≡ false → below n (once T (w ∷ ws)) ≡ false
    twice z e l f =
        below_false n (once T (w ∷ ws)) z (ltb-true z n l)
        (let one : cond (is (sets w) z) (suc (times z ws)) (times z ws) ≡ suc (times z ws) = ap (λ o. cond (is o z) (suc (times z ws)) (times z ws)) e ∙ cond-true (eqb z z) _ _ (eq-eqb z z refl) in
        let on : noted (get_or T z None) ≡ 1 = some_noted (get_or T z None) f in
        ne_eqb (times z (w ∷ ws) + noted (get_or T z None)) 1 (λ x. omega arith))

    leb_shift : (d j : ℕ) → leb (i + 1 + d) (i + 1 + j) ≡ leb d j
    leb_shift d j = go (leb d j) refl
      where
        go : (b : Bool) → leb d j ≡ b → leb (i + 1 + d) (i + 1 + j) ≡ b
        go true q = let l = leb-true d j q in le-leb (i + 1 + d) (i + 1 + j) (omega arith)
        go false q = let l = leb-false d j q in lt-leb (i + 1 + d) (i + 1 + j) (omega arith)

    moved : (o : Option ℕ) → sets w ≡ o → inside n o ≡ true → can_set T o ≡ true → (j : ℕ) (r : Option ℕ) → late i T (w ∷ ws) (suc j) r ≡ late (i + 1) (next o) ws j r
    moved o e l f j None = refl
    moved None e l f j (Some y) =
        let k : i + suc j ≡ i + 1 + j = omega arith in
        ap₂ (λ (m : ℕ) (o : Option ℕ). held (get_or T y None) m || ((is o y && leb (builds arities w) j) || set_before arities ws y j)) k e
    moved (Some z) e l f j (Some y) =
        let k : i + suc j ≡ i + 1 + j = omega arith in
        let zl = ltb-true z n l in
        let d = builds arities w in
        let t = i + 1 + d in
        ap₂ (λ (m : ℕ) (o : Option ℕ). held (get_or T y None) m || ((is o y && leb d j) || set_before arities ws y j)) k e
        ∙ elim (cases_eq z y) [
          | inl q ↦
              let at : get_or (set T z (Some t)) y None ≡ Some t = ap (λ k. get_or (set T z (Some t)) k None) (sym q) ∙ get_or-set_same T z (Some t) None (omega arith) in
              let off : held (get_or T y None) (i + 1 + j) ≡ false = none_held (get_or T y None) (i + 1 + j) (ap (λ k. is_none (get_or T k None)) (sym q) ∙ f) in
              let on : held (get_or (set T z (Some t)) y None) (i + 1 + j) ≡ leb d j = ap (λ x. held x (i + 1 + j)) at ∙ leb_shift d j in
              ap₂ (λ (a b : Bool). a || ((b && leb d j) || set_before arities ws y j)) off (eq-eqb z y q)
              ∙ ap (λ a. a || set_before arities ws y j) (sym on)
          | inr ne ↦
              let at : get_or (set T z (Some t)) y None ≡ get_or T y None = get_or-set_other T z y (Some t) None (λ x. ne (sym x)) in
              ap₂ (λ (a : Option ℕ) (b : Bool). held a (i + 1 + j) || ((b && leb d j) || set_before arities ws y j)) (sym at) (ne_eqb z y ne)
        ]

    next_long : (o : Option ℕ) → n ≤ length (next o)
    next_long None = long
    next_long (Some z) = let e = length-set T z (Some (i + 1 + builds arities w)) in omega arith

  module _ (i : ℕ) (T : List (Option ℕ)) (w : Instruction) (ws : List Instruction) (long : n ≤ length T) where
    abbrev T' : List (Option ℕ)
    T' = marked T (sets w) (i + 1 + builds arities w)

    abbrev onces : Bool
    onces = below n (once T (w ∷ ws))

    abbrev others : Bool
    others = each_at (λ j x. late i T (w ∷ ws) (suc j) (reads x)) ws

    doubled : (o : Option ℕ) → sets w ≡ o → inside n o ≡ true → can_set T o ≡ false → onces ≡ false
    doubled None e l f = let z : ◌≡◌ {A = ℕ} 0 1 = cc in absurd (omega arith)
    doubled (Some z) e l f = twice i T w ws long z e l f

    turn : (r s : Bool) → can_read T i (reads w) ≡ r → can_set T (sets w) ≡ s → inside n (sets w) ≡ true
        → slot_pass n arities (i + 1) T' ws ≡ (below n (once T' ws) && each_at (λ j x. late (i + 1) T' ws j (reads x)) ws)
        → (r && (s && slot_pass n arities (i + 1) T' ws)) ≡ (onces && (late i T (w ∷ ws) 0 (reads w) && others))
    turn false s p q l ih =
        sym (ap (λ x. onces && (x && others)) (sym (read_first i T w ws (reads w)) ∙ p) ∙ and_right onces false refl)
    turn true false p q l ih =
        ap (λ x. x && (late i T (w ∷ ws) 0 (reads w) && others)) (sym (doubled (sets w) refl l q))
    turn true true p q l ih =
        ih
        ∙ ap₂ (λ (a b : Bool). a && b)
        (sym (below_ext n (once T (w ∷ ws)) (once T' ws) (λ y h. ap (λ k. eqb k 1) (counted i T w ws long (sets w) refl l q y))))
        (sym (each_ext ws (λ j x. late i T (w ∷ ws) (suc j) (reads x)) (λ j x. late (i + 1) T' ws j (reads x)) (λ j x. moved i T w ws long (sets w) refl l q j (reads x))))
        ∙ ap (λ x. onces && (x && others)) (sym (sym (read_first i T w ws (reads w)) ∙ p))

  pub pass_is : (ws : List Instruction) (i : ℕ) (T : List (Option ℕ)) → n ≤ length T → every (λ w. inside n (sets w)) ws ≡ true
      → slot_pass n arities i T ws ≡ (below n (once T ws) && each_at (λ j w. late i T ws j (reads w)) ws)
  pass_is [] i T long h = below_ext n (λ y. is_some (get_or T y None)) (once T []) (λ y l. unmarked (get_or T y None)) ∙ sym (and-true (below n (once T [])))
  pass_is (w ∷ ws) i T long h =
      let parts = and_parts (inside n (sets w)) (every (λ w. inside n (sets w)) ws) h in
      turn i T w ws long (can_read T i (reads w)) (can_set T (sets w)) refl refl parts.0
      (pass_is ws (i + 1) (T' i T w ws long) (next_long i T w ws long (sets w)) parts.1)

  abbrev none : List (Option ℕ)
  none = replicate 256 None

  none_at : (y : ℕ) → get_or none y None ≡ None
  none_at y = elim (cases_lt y 256) [ inl l ↦ get_or-replicate 256 y None None l | inr g ↦ get_or_past none y None (let e : length none ≡ 256 = length-replicate {A = Option ℕ} 256 None in omega arith) ]

  pub slots_are : (ws : List Instruction) → n ≤ 256 → every (λ w. inside n (sets w)) ws ≡ true → slot_pass n arities 0 none ws ≡ v5 n arities ws
  slots_are ws few h =
      pass_is ws 0 none (let e : length none ≡ 256 = length-replicate {A = Option ℕ} 256 None in omega arith) h
      ∙ ap₂ (λ (a b : Bool). a && b)
      (below_ext n (once none ws) (λ y. eqb (times y ws) 1) (λ y l. let z : noted (get_or none y None) ≡ 0 = ap noted (none_at y) in let e : times y ws + noted (get_or none y None) ≡ times y ws = omega arith in ap (λ k. eqb k 1) e))
      (each_ext ws (λ j w. late 0 none ws j (reads w)) (λ j w. ready arities ws j (reads w)) (λ j w. start j (reads w)))
    where
      start : (j : ℕ) (o : Option ℕ) → late 0 none ws j o ≡ ready arities ws j o
      start j None = refl
      start j (Some y) = ap (λ t. held t (0 + j) || set_before arities ws y j) (none_at y)

  -- the loop
  pub pass_turn : (ws : List ℕ) (i : ℕ) (T : List (Option ℕ)) (x : Instruction) (r s : Bool) → i < length ws → x ≡ decode (get_or ws i 0) → r ≡ can_read T i (reads x) → s ≡ can_set T (sets x)
      → slot_pass n arities i T (map decode (drop i ws)) ≡ (r && (s && slot_pass n arities (i + 1) (marked T (sets x) (i + 1 + builds arities x)) (map decode (drop (i + 1) ws))))
  pass_turn ws i T x r s h p q e =
      at_drop_more (λ l. slot_pass n arities i T (map decode l)) ws i 0 h
      ∙ ap (λ w. can_read T i (reads w) && (can_set T (sets w) && slot_pass n arities (i + 1) (marked T (sets w) (i + 1 + builds arities w)) (map decode (drop (i + 1) ws)))) (sym p)
      ∙ ap₂ (λ (a b : Bool). a && (b && slot_pass n arities (i + 1) (marked T (sets x) (i + 1 + builds arities x)) (map decode (drop (i + 1) ws)))) (sym q) (sym e)

pub marked_length : (T : List (Option ℕ)) (o : Option ℕ) (t : ℕ) → length (marked T o t) ≡ length T
marked_length T None t = refl
marked_length T (Some y) t = length-set T y (Some t)
