-- Symbols and variables by their numbers.
use Rattle.std.proofs.Common.{◌≡◌, ℕ, zero, suc, ◌+◌, ◌<◌, ◌≤◌, Bool, true, false, cond, ◌&&◌, eqb, ltb, ◌⊎◌, List, [], ◌∷◌, ◌++◌, length, get_or, Some, None, sym, refl, ap, ◌∙◌, subst, ap₂, inl, inr, arith, length-append}
use Rattle.std.specs.Prelude.{nat_eq}
use Rattle.std.specs.Cmp.Lexicographic.{pointwise, same_text}
use Rattle.std.proofs.lemmas.List.{get_or-map, length-map, map-append, get_or_push, get_or_append_left}
use Rattle.std.proofs.lemmas.Bool.Decides.{nat_tests}
use Rattle.std.proofs.lemmas.Bool.{eqb-true, eq-eqb, and_parts, and_from, lt-ltb, ltb-true, ltb-false, le-ltb, cond-true, cond-false, cases_lt}
use Rattle.horn.specs.Terms.{Name}
use Rattle.horn.specs.Clauses.{Variable, named, blank, is_blank, called, meant}
use Rattle.symbol_table.specs.Symbols.{Symbol, Signature, name_at, arity_at}
use Rattle.horn.specs.Equations.{same_name}
use Rattle.symbol_table.specs.Numbers.{is_symbol, number_in, found, known_variable, names_of, blanks_in, number_of, noted}

-- names as slices
pub same_slices : (xs ys : Name) → pointwise nat_eq xs ys ≡ same_name xs ys
same_slices [] [] = refl
same_slices [] (y ∷ ys) = refl
same_slices (x ∷ xs) [] = refl
same_slices (x ∷ xs) (y ∷ ys) = ap (λ t. eqb x y && t) (same_slices xs ys)

pub same_name_lem : (a b : Name) → same_name a b ≡ true → a ≡ b
same_name_lem a b h = same_text a b (sym (same_slices a b ∙ h))

pub name_same : (a : Name) → same_name a a ≡ true
name_same [] = refl
name_same (x ∷ xs) = and_from _ _ (eq-eqb x x refl) (name_same xs)

-- the symbol with that number has that name and arity
pub number_is : (sig : Signature) (f : Name) (n : ℕ) → number_in sig f n < length sig → (name_at sig (number_in sig f n) ≡ f) × (arity_at sig (number_in sig f n) ≡ n)
number_is [] f n h = absurd (omega arith)
number_is (s ∷ sig) f n h = go (number_is sig f n) (is_symbol s f n) refl h
  where
    go : (number_in sig f n < length sig → (name_at sig (number_in sig f n) ≡ f) × (arity_at sig (number_in sig f n) ≡ n)) → (t : Bool) → is_symbol s f n ≡ t → cond t 0 (suc (number_in sig f n)) < suc (length sig)
        → (name_at (s ∷ sig) (cond t 0 (suc (number_in sig f n))) ≡ f) × (arity_at (s ∷ sig) (cond t 0 (suc (number_in sig f n))) ≡ n)
    go ih true e h = let p = and_parts (same_name s.name f) (eqb s.arity n) e in (same_name_lem s.name f p.0, eqb-true s.arity n p.1)
    go ih false e h = ih (omega arith)

-- and none before it has
pub number_first : (sig : Signature) (f : Name) (n k : ℕ) → name_at sig k ≡ f → arity_at sig k ≡ n → k < length sig → number_in sig f n ≤ k
number_first [] f n k p q h = absurd (omega arith)
number_first (s ∷ sig) f n zero p q h =
    let e : is_symbol s f n ≡ true = and_from _ _ (subst (λ g. same_name s.name g ≡ true) p (name_same s.name)) (eq-eqb s.arity n q) in
    let z = cond-true {A = ℕ} (is_symbol s f n) 0 (suc (number_in sig f n)) e in omega arith
number_first (s ∷ sig) f n (suc k) p q h = grind (arith, nat_tests, number_first sig f n k p q (omega arith))

pub number_top : (sig : Signature) (f : Name) (n : ℕ) → number_in sig f n ≤ length sig
number_top [] f n = omega arith
number_top (s ∷ sig) f n = grind (arith, nat_tests, number_top sig f n)

-- the variable with a number
abbrev pub at : List Variable → ℕ → Variable
at V k = get_or V k (blank 0)

pub names_long : (V : List Variable) → length (names_of V) ≡ length V
names_long V = simp length-map

names_at : (V : List Variable) (k : ℕ) → k < length V → (name_at (names_of V) k ≡ called (at V k)) × (arity_at (names_of V) k ≡ 0)
names_at V k h = let e = get_or-map {X = Variable} {Y = Symbol} (λ x. record { name = called x; arity = 0 }) V k (blank 0) (record { name = []; arity = 0 }) h in (ap (λ s. s.name) e, ap (λ s. s.arity) e)

-- each variable once, and the blanks counted
pub record Apart (V : List Variable) : Type 0 where
  pub once : (i j : ℕ) → i < length V → j < length V → at V i ≡ at V j → i ≡ j
  pub blanks : (k n : ℕ) → k < length V → at V k ≡ blank n → n < blanks_in V

-- one is the beginning of the other
pub record Begins (V W : List Variable) : Type 0 where
  pub long : length V ≤ length W
  pub same : (k : ℕ) → k < length V → at W k ≡ at V k

pub begins_all : (V : List Variable) → Begins V V
begins_all V = record { long = omega arith; same = λ k h. refl }

pub begins_then : {U V W : List Variable} → Begins U V → Begins V W → Begins U W
begins_then p q = record { long = omega (arith, p.long, q.long); same = λ k h. q.same k (omega (arith, p.long)) ∙ p.same k h }

module _ (V : List Variable) (x : Variable) where
  pushed_long : length (V ++ x ∷ []) ≡ length V + 1
  pushed_long = length-append V (x ∷ [])

  pushed_last : at (V ++ x ∷ []) (length V) ≡ x
  pushed_last = get_or_push V x (blank 0) (length V) refl

  pushed_old : (k : ℕ) → k < length V → at (V ++ x ∷ []) k ≡ at V k
  pushed_old k h = get_or_append_left V (x ∷ []) (blank 0) k h

blanks_push : (V : List Variable) (x : Variable) → blanks_in (V ++ x ∷ []) ≡ blanks_in V + blanks_in (x ∷ [])
blanks_push [] x = omega arith
blanks_push (named v ∷ V) x = blanks_push V x
blanks_push (blank n ∷ V) x = omega (arith, blanks_push V x)

apart_push : (V : List Variable) (x : Variable) → Apart V → ((k : ℕ) → k < length V → at V k ≡ x → ⊥) → ((n : ℕ) → x ≡ blank n → n ≡ blanks_in V) → Apart (V ++ x ∷ [])
apart_push V x a absent count = record {
  once = λ i j hi hj e.
      elim (cases_lt i (length V)) [
        | inl li ↦ elim (cases_lt j (length V)) [
          | inl lj ↦ a.once i j li lj (sym (pushed_old V x i li) ∙ e ∙ pushed_old V x j lj)
          | inr gj ↦ (let q : j ≡ length V = omega (arith, pushed_long V x) in absurd (absent i li (sym (pushed_old V x i li) ∙ e ∙ ap (at (V ++ x ∷ [])) q ∙ pushed_last V x)))
        ]
        | inr gi ↦ elim (cases_lt j (length V)) [
          | inl lj ↦ (let q : i ≡ length V = omega (arith, pushed_long V x) in absurd (absent j lj (sym (pushed_old V x j lj) ∙ sym e ∙ ap (at (V ++ x ∷ [])) q ∙ pushed_last V x)))
          | inr gj ↦ omega (arith, pushed_long V x)
        ]
      ];
  blanks = λ k n h e.
      elim (cases_lt k (length V)) [
        | inl l ↦ omega (arith, a.blanks k n l (sym (pushed_old V x k l) ∙ e), blanks_push V x)
        | inr g ↦
            (let q : k ≡ length V = omega (arith, pushed_long V x) in
            let is : x ≡ blank n = sym (pushed_last V x) ∙ ap (at (V ++ x ∷ [])) (sym q) ∙ e in
            let one : blanks_in (x ∷ []) ≡ 1 = ap (λ y. blanks_in (y ∷ [])) is in
            omega (arith, blanks_push V x, count n is))
      ];
}

pub apart_none : Apart []
apart_none = record { once = λ i j hi hj e. absurd (omega arith); blanks = λ k n h e. absurd (omega arith) }

not_blank : (n : ℕ) (v : Name) → is_blank v ≡ false → called (blank n) ≡ v → ⊥
not_blank n v e q = let z : true ≡ false = ap is_blank q ∙ e in let w : ◌≡◌ {A = ℕ} 0 1 = cc in omega arith

called_named : (x : Variable) (v : Name) → is_blank v ≡ false → called x ≡ v → x ≡ named v
called_named (named w) v e q = ap named q
called_named (blank n) v e q = absurd (not_blank n v e q)

-- what noting a name does
pub record Noted (V : List Variable) (v : Name) : Type 0 where
  pub begins : Begins V (noted V v)
  pub within : number_of V v < length (noted V v)
  pub is : at (noted V v) (number_of V v) ≡ meant (blanks_in V) v
  pub apart : Apart (noted V v)
  pub counts : blanks_in (noted V v) ≡ blanks_in V + cond (is_blank v) 1 0
  pub more : (length (noted V v) ≡ length V) ⊎ (number_of V v ≡ length V)
  pub grows : length (noted V v) ≤ length V + 1

module _ (V : List Variable) (v : Name) (a : Apart V) where
  -- a new variable
  module _ (x : Variable) (is_x : meant (blanks_in V) v ≡ x) (new : number_of V v ≡ length V) (absent : (k : ℕ) → k < length V → at V k ≡ x → ⊥) (count : (n : ℕ) → x ≡ blank n → n ≡ blanks_in V) (one : blanks_in (x ∷ []) ≡ cond (is_blank v) 1 0) where
    new_is : noted V v ≡ V ++ x ∷ []
    new_is = cond-false (ltb (number_of V v) (length V)) V (V ++ meant (blanks_in V) v ∷ []) (le-ltb (number_of V v) (length V) (omega arith)) ∙ ap (λ y. V ++ y ∷ []) is_x

    new_noted : Noted V v
    new_noted =
        let e = new_is in
        record {
          begins = subst (Begins V) (sym e) (record { long = omega (arith, pushed_long V x); same = pushed_old V x });
          within = omega (arith, ap length e, pushed_long V x);
          is = ap₂ at e new ∙ pushed_last V x ∙ sym is_x;
          apart = subst Apart (sym e) (apart_push V x a absent count);
          counts = ap blanks_in e ∙ blanks_push V x ∙ ap (λ k. blanks_in V + k) one;
          more = inr new;
          grows = omega (arith, ap length e, pushed_long V x);
        }

  go_found : is_blank v ≡ false → number_of V v ≡ number_in (names_of V) v 0 → number_in (names_of V) v 0 < length V → Noted V v
  go_found plain e lt =
      let same : noted V v ≡ V = cond-true (ltb (number_of V v) (length V)) V (V ++ meant (blanks_in V) v ∷ []) (lt-ltb (number_of V v) (length V) (omega arith)) in
      let here = number_is (names_of V) v 0 (omega (arith, names_long V)) in
      let there = names_at V (number_in (names_of V) v 0) lt in
      record {
        begins = subst (Begins V) (sym same) (begins_all V);
        within = omega (arith, ap length same);
        is =
            ap₂ at same e ∙ called_named (at V (number_in (names_of V) v 0)) v plain (sym there.0 ∙ here.0)
            ∙ sym (cond-false (is_blank v) (blank (blanks_in V)) (named v) plain);
        apart = subst Apart (sym same) a;
        counts = ap blanks_in same ∙ (let z = cond-false {A = ℕ} (is_blank v) 1 0 plain in omega arith);
        more = inl (ap length same);
        grows = omega (arith, ap length same);
      }

  go_new : is_blank v ≡ false → number_of V v ≡ number_in (names_of V) v 0 → length V ≤ number_in (names_of V) v 0 → number_in (names_of V) v 0 ≤ length V → Noted V v
  go_new plain e ge le =
      new_noted (named v) (cond-false (is_blank v) (blank (blanks_in V)) (named v) plain) (omega arith)
      (λ k h q. (let there = names_at V k h in
      let first = number_first (names_of V) v 0 k (there.0 ∙ ap called q) there.1 (omega (arith, names_long V)) in omega arith))
      (λ n q. cc)
      (sym (cond-false {A = ℕ} (is_blank v) 1 0 plain))

  pub noting : Noted V v
  noting = go (is_blank v) refl
    where
      go : (t : Bool) → is_blank v ≡ t → Noted V v
      go true e =
          new_noted (blank (blanks_in V)) (cond-true (is_blank v) (blank (blanks_in V)) (named v) e) (cond-true (is_blank v) (length V) (number_in (names_of V) v 0) e)
          (λ k h q. (let l = a.blanks k (blanks_in V) h q in omega arith))
          (λ n q. (let z : n ≡ blanks_in V = cc in z))
          (sym (cond-true {A = ℕ} (is_blank v) 1 0 e))
      go false e =
          let same : number_of V v ≡ number_in (names_of V) v 0 = cond-false (is_blank v) (length V) (number_in (names_of V) v 0) e in
          elim (cases_lt (number_in (names_of V) v 0) (length V)) [
            | inl lt ↦ go_found e same lt
            | inr ge ↦ go_new e same ge (omega (arith, number_top (names_of V) v 0, names_long V))
          ]

-- variables alike
abbrev alike : Variable → Variable → Bool
alike (named v) (named w) = same_name v w
alike (named v) (blank n) = false
alike (blank n) (named v) = false
alike (blank m) (blank n) = eqb m n

alike_is : (x y : Variable) → alike x y ≡ true → x ≡ y
alike_is (named v) (named w) h = ap named (same_name_lem v w h)
alike_is (named v) (blank n) h = cc
alike_is (blank n) (named v) h = cc
alike_is (blank m) (blank n) h = ap blank (eqb-true m n h)

alike_self : (x : Variable) → alike x x ≡ true
alike_self (named v) = name_same v
alike_self (blank n) = eq-eqb n n refl

-- where a variable stands
abbrev pub place : List Variable → Variable → ℕ
place [] x = 0
place (y ∷ V) x = cond (alike y x) 0 (suc (place V x))

place_at : (V : List Variable) (k : ℕ) → k < length V → (place V (at V k) ≤ k) × (at V (place V (at V k)) ≡ at V k)
place_at [] k h = absurd (omega arith)
place_at (y ∷ V) zero h = let e = cond-true {A = ℕ} (alike y y) 0 (suc (place V y)) (alike_self y) in (omega arith, ap (at (y ∷ V)) e)
place_at (y ∷ V) (suc k) h = go (place_at V k (omega arith)) (alike y (at V k)) refl
  where
    go : (place V (at V k) ≤ k) × (at V (place V (at V k)) ≡ at V k) → (t : Bool) → alike y (at V k) ≡ t
        → (cond t 0 (suc (place V (at V k))) ≤ suc k) × (at (y ∷ V) (cond t 0 (suc (place V (at V k)))) ≡ at V k)
    go ih true e = (omega arith, alike_is y (at V k) e)
    go ih false e = (omega (arith, ih.0), ih.1)

pub placed : (V : List Variable) → Apart V → (k : ℕ) → k < length V → place V (at V k) ≡ k
placed V a k h = let p = place_at V k h in a.once (place V (at V k)) k (omega (arith, p.0)) h p.1

called_meant : (n : ℕ) (v : Name) → called (meant n v) ≡ v
called_meant n v = go (is_blank v) refl
  where
    blank_name : (v : Name) → is_blank v ≡ true → 95 ∷ [] ≡ v
    blank_name [] e = cc
    blank_name (b ∷ []) e = ap (λ x. x ∷ []) (sym (eqb-true b 95 e))
    blank_name (b ∷ c ∷ bs) e = cc

    go : (t : Bool) → is_blank v ≡ t → called (cond t (blank n) (named v)) ≡ v
    go true e = blank_name v e
    go false e = refl

names_push : (V : List Variable) (x : Variable) → names_of (V ++ x ∷ []) ≡ names_of V ++ record { name = called x; arity = 0 } ∷ []
names_push V x = map-append (λ y. record { name = called y; arity = 0 }) V (x ∷ [])

-- a variable's number by its name
module _ (names : Signature) (v : Name) (V : List Variable) (is : names ≡ names_of V) where
  pub known_some : (k : ℕ) → Some k ≡ known_variable names v → (k ≡ number_of V v) × (names ≡ names_of (noted V v))
  known_some k h = go (is_blank v) refl (h ∙ ap (λ s. known_variable s v) is)
    where
      go : (t : Bool) → is_blank v ≡ t → Some k ≡ cond t None (found (names_of V) v 0) → (k ≡ number_of V v) × (names ≡ names_of (noted V v))
      go true e q = cc
      go false e q = on (ltb (number_in (names_of V) v 0) (length (names_of V))) refl q
        where
          on : (t : Bool) → ltb (number_in (names_of V) v 0) (length (names_of V)) ≡ t → Some k ≡ cond t (Some (number_in (names_of V) v 0)) None → (k ≡ number_of V v) × (names ≡ names_of (noted V v))
          on true l q =
              let lt = ltb-true (number_in (names_of V) v 0) (length (names_of V)) l in
              let same : number_of V v ≡ number_in (names_of V) v 0 = cond-false (is_blank v) (length V) (number_in (names_of V) v 0) e in
              let k_is : k ≡ number_in (names_of V) v 0 = cc in
              (k_is ∙ sym same, is ∙ sym (ap names_of (cond-true (ltb (number_of V v) (length V)) V (V ++ meant (blanks_in V) v ∷ []) (lt-ltb (number_of V v) (length V) (omega (arith, names_long V))))))
          on false l q = cc

  pub known_none : None ≡ known_variable names v → (length names ≡ number_of V v) × (names ++ record { name = v; arity = 0 } ∷ [] ≡ names_of (noted V v))
  known_none h =
      let new : number_of V v ≡ length V = go (is_blank v) refl (h ∙ ap (λ s. known_variable s v) is) in (
        ap length is ∙ names_long V ∙ sym new,
        ap (λ s. s ++ record { name = v; arity = 0 } ∷ []) is ∙ ap (λ f. names_of V ++ record { name = f; arity = 0 } ∷ []) (sym (called_meant (blanks_in V) v)) ∙ sym (names_push V (meant (blanks_in V) v))
            ∙ sym (ap names_of (cond-false (ltb (number_of V v) (length V)) V (V ++ meant (blanks_in V) v ∷ []) (le-ltb (number_of V v) (length V) (omega arith)))),
      )
    where
      go : (t : Bool) → is_blank v ≡ t → None ≡ cond t None (found (names_of V) v 0) → number_of V v ≡ length V
      go true e q = cond-true (is_blank v) (length V) (number_in (names_of V) v 0) e
      go false e q = cond-false (is_blank v) (length V) (number_in (names_of V) v 0) e ∙ on (ltb (number_in (names_of V) v 0) (length (names_of V))) refl q
        where
          on : (t : Bool) → ltb (number_in (names_of V) v 0) (length (names_of V)) ≡ t → None ≡ cond t (Some (number_in (names_of V) v 0)) None → number_in (names_of V) v 0 ≡ length V
          on true l q = cc
          on false l q = omega (arith, ltb-false (number_in (names_of V) v 0) (length (names_of V)) l, number_top (names_of V) v 0, names_long V)
