-- Symbols in their table.
use Rattle.std.proofs.Common.{◌≡◌, ℕ, zero, suc, ◌+◌, ◌*◌, ◌<◌, ◌≤◌, Bool, true, false, cond, eqb, ltb, ◌≢◌, List, [], ◌∷◌, ◌++◌, length, get_or, take, drop, set, replicate, Some, None, sym, refl, ap, ◌∙◌, subst, ap₂, inl, inr, add-one, arith, take_all, get_or-set_other, get_or-set_same, take-take}
use lib.Seq.{take-append-le}
use Rattle.std.proofs.lemmas.List.{drop-take}
use Rattle.std.proofs.lemmas.Bool.{and_from, and_parts, eq-eqb, eqb-true, cases_eq, cond-true, cond-false, lt-ltb, le-ltb}
use Rattle.horn.specs.Terms.{Name}
use Rattle.symbol_table.specs.Symbols.{Symbol, Signature, symbol_at, name_at, arity_at}
use Rattle.horn.specs.Equations.{same_name}
use Rattle.symbol_table.specs.Numbers.{is_symbol, number_in, found, note_symbol}
use Rattle.symbol_table.proofs.SymbolLaws.{up_to_long}
use Rattle.symbol_table.specs.Tables.{up_to}
use Rattle.symbol_table.proofs.NumberLaws.{name_same, number_is, number_first, same_name_lem}

-- what stands before a place is as it was
pub kept_before : (xs ys : List ℕ) (at j m : ℕ) → take at xs ≡ take at ys → j + m ≤ at → take m (drop j xs) ≡ take m (drop j ys)
kept_before xs ys at j m e h =
    sym (drop-take j m xs) ∙ ap (drop j) (sym (take-take (j + m) at xs h) ∙ ap (take (j + m)) e ∙ take-take (j + m) at ys h) ∙ drop-take j m ys

pub up_to_same : {X : Type 0} (n : ℕ) (f g : ℕ → X) → ((k : ℕ) → k < n → f k ≡ g k) → up_to n f ≡ up_to n g
up_to_same zero f g h = refl
up_to_same (suc n) f g h = ap₂ (λ l x. l ++ x ∷ []) (up_to_same n f g (λ k lt. h k (omega arith))) (h n (omega arith))

-- looking for a symbol
module _ (sig : Signature) (f : Name) (n k : ℕ) (low : k ≤ number_in sig f n) (lt : k < length sig) where
  pub number_past : is_symbol (symbol_at sig k) f n ≡ false → k + 1 ≤ number_in sig f n
  number_past differs =
      elim (cases_eq k (number_in sig f n)) [
        | inl q ↦
            (let is = number_is sig f n (omega arith) in
            let alike : is_symbol (symbol_at sig k) f n ≡ true =
            and_from _ _ (subst (λ g. same_name g f ≡ true) (sym (ap (name_at sig) q ∙ is.0)) (name_same f)) (eq-eqb (arity_at sig k) n (ap (arity_at sig) q ∙ is.1)) in
            let z : true ≡ false = sym alike ∙ differs in absurd cc)
        | inr ne ↦ (let z : (k ≡ number_in sig f n → ⊥) = ne in omega arith)
      ]

  pub number_here : is_symbol (symbol_at sig k) f n ≡ true → found sig f n ≡ Some k
  number_here alike =
      let p = and_parts (same_name (name_at sig k) f) (eqb (arity_at sig k) n) alike in
      let first = number_first sig f n k (same_name_lem (name_at sig k) f p.0) (eqb-true (arity_at sig k) n p.1) lt in
      let e : number_in sig f n ≡ k = omega arith in
      cond-true (ltb (number_in sig f n) (length sig)) (Some (number_in sig f n)) None (lt-ltb (number_in sig f n) (length sig) (omega arith)) ∙ ap Some e

pub number_none : (sig : Signature) (f : Name) (n : ℕ) → length sig ≤ number_in sig f n → found sig f n ≡ None
number_none sig f n h = cond-false (ltb (number_in sig f n) (length sig)) (Some (number_in sig f n)) None (le-ltb (number_in sig f n) (length sig) h)

-- arrays with small numbers
pub zeros : (n m k : ℕ) → get_or (replicate n 0) k 0 ≤ m
zeros zero m k = omega arith
zeros (suc n) m zero = omega arith
zeros (suc n) m (suc k) = zeros n m k

-- one symbol more
abbrev entry : List ℕ → List ℕ → List ℕ → ℕ → Symbol
entry bytes lens arities k = record { name = take (get_or lens k 0) (drop (31 * k) bytes); arity = get_or arities k 0 }

symbol_of_lem : (f g : Name) (a b : ℕ) → f ≡ g → a ≡ b → ◌≡◌ {A = Symbol} (record { name = f; arity = a }) (record { name = g; arity = b })
symbol_of_lem f g a b p q = ap₂ (λ x y. record { name = x; arity = y }) p q

pub symbol_more : (bytes bytes' lens arities : List ℕ) (k : ℕ) (name : Name) (a : ℕ) → k < length lens → k < length arities → take (31 * k) bytes' ≡ take (31 * k) bytes → take (length name) (drop (31 * k) bytes') ≡ name
    → ((j : ℕ) → get_or lens j 0 ≤ 31)
    → up_to (k + 1) (entry bytes' (set lens k (length name)) (set arities k a)) ≡ up_to k (entry bytes lens arities) ++ record { name = name; arity = a } ∷ []
symbol_more bytes bytes' lens arities k name a lk ak kept new short =
    ap (λ n. up_to n (entry bytes' (set lens k (length name)) (set arities k a))) (add-one k)
    ∙ ap₂ (λ l x. l ++ x ∷ [])
    (up_to_same k (entry bytes' (set lens k (length name)) (set arities k a)) (entry bytes lens arities) (λ j lt.
    (let ne : j ≢ k = λ q. omega arith in
    symbol_of_lem _ _ _ _
    (ap (λ m. take m (drop (31 * j) bytes')) (get_or-set_other lens k j (length name) 0 ne) ∙ kept_before bytes' bytes (31 * k) (31 * j) (get_or lens j 0) kept (omega (arith, short j)))
    (get_or-set_other arities k j a 0 ne))))
    (symbol_of_lem _ _ _ _ (ap (λ m. take m (drop (31 * k) bytes')) (get_or-set_same lens k (length name) 0 lk) ∙ new) (get_or-set_same arities k a 0 ak))

-- the first of the values
pub up_to_take : {X : Type 0} (m n : ℕ) (f : ℕ → X) → m ≤ n → take m (up_to n f) ≡ up_to m f
up_to_take m zero f h = let z : m ≡ 0 = omega arith in ap (λ k. take k (up_to 0 f)) z ∙ ap (λ k. up_to k f) (sym z)
up_to_take m (suc n) f h =
    elim (cases_eq m (suc n)) [
      | inl q ↦ ap (λ k. take k (up_to (suc n) f)) q ∙ take_all (suc n) (up_to (suc n) f) (omega (arith, up_to_long (suc n) f)) ∙ ap (λ k. up_to k f) (sym q)
      | inr ne ↦ (let l : m ≤ n = (let z : (m ≡ suc n → ⊥) = ne in omega arith) in take-append-le m (up_to n f) (f n ∷ []) (omega (arith, up_to_long n f)) ∙ up_to_take m n f l)
    ]

-- noting a symbol that was not found
pub note_new : (sig : Signature) (f : Name) (n : ℕ) → None ≡ found sig f n → sig ++ record { name = f; arity = n } ∷ [] ≡ note_symbol sig f n
note_new sig f n h = go (ltb (number_in sig f n) (length sig)) h
  where
    go : (t : Bool) → None ≡ cond t (Some (number_in sig f n)) None → sig ++ record { name = f; arity = n } ∷ [] ≡ cond t sig (sig ++ record { name = f; arity = n } ∷ [])
    go true q = cc
    go false q = refl
