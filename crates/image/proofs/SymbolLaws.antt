-- Symbols in turn.
use Rattle.std.proofs.Common.{◌≡◌, ℕ, zero, suc, ◌+◌, ◌-◌, ◌<◌, ◌≤◌, Bool, true, false, cond, not, ◌&&◌, ◌||◌, eqb, ◌⊎◌, List, [], ◌∷◌, ◌++◌, map, length, take, drop, Some, sym, refl, ap, ◌∙◌, ap₂, inl, inr, add-one, arith, take_all}
use Rattle.std.proofs.lemmas.List.{length-drop, drop_all, take-take, drop-take, map-append}
use Rattle.std.proofs.lemmas.Bool.{cases_lt, cases_eq}
use Rattle.std.specs.Cmp.Lexicographic.{pointwise}
use Rattle.code.specs.Tests.{some}
use Rattle.image.specs.Symbols.{symbol_of, extent, symbols_of, after_symbols, proper, same, symbol_fault, arity}

symbols_suc : (i : ℕ) (ws : List ℕ) → symbols_of (suc i) ws ≡ symbols_of i ws ++ (take (extent (after_symbols i ws)) (after_symbols i ws) ∷ [])
symbols_suc zero ws = refl
symbols_suc (suc i) ws = ap (λ (l : List (List ℕ)). take (extent ws) ws ∷ l) (symbols_suc i (drop (extent ws) ws))

after_suc : (i : ℕ) (ws : List ℕ) → after_symbols (suc i) ws ≡ drop (extent (after_symbols i ws)) (after_symbols i ws)
after_suc zero ws = refl
after_suc (suc i) ws = after_suc i (drop (extent ws) ws)

pub symbols_more : (i : ℕ) (ws : List ℕ) → symbols_of (i + 1) ws ≡ symbols_of i ws ++ (take (extent (after_symbols i ws)) (after_symbols i ws) ∷ [])
symbols_more i ws = rw add-one (symbols_suc i ws)

pub after_more : (i : ℕ) (ws : List ℕ) → after_symbols (i + 1) ws ≡ drop (extent (after_symbols i ws)) (after_symbols i ws)
after_more i ws = rw add-one (after_suc i ws)

pub symbols_count : (i : ℕ) (ws : List ℕ) → length (symbols_of i ws) ≡ i
symbols_count zero ws = refl
symbols_count (suc i) ws = ap suc (symbols_count i (drop (extent ws) ws))

module _ (left : List ℕ) (count i : ℕ) (lt : i < count) (x : List ℕ) (is : x ≡ take (extent left) left) where
  pub first_of : symbols_of (count - i) left ≡ x ∷ symbols_of (count - (i + 1)) (drop (extent left) left)
  first_of =
      let e : count - i ≡ suc (count - (i + 1)) = omega arith in
      ap (λ n. symbols_of n left) e ∙ ap (λ (l : List ℕ). l ∷ symbols_of (count - (i + 1)) (drop (extent left) left)) (sym is)

  module _ (words : List ℕ) where
    pub fault_bad : proper x ≡ false → symbol_fault (symbols_of i words) (symbols_of (count - i) left) ≡ Some i
    fault_bad p =
        ap (symbol_fault (symbols_of i words)) first_of
        ∙ ap (λ t. cond (t && not (some (same x) (symbols_of i words))) (symbol_fault (symbols_of i words ++ x ∷ []) (symbols_of (count - (i + 1)) (drop (extent left) left))) (Some (length (symbols_of i words)))) p
        ∙ ap Some (symbols_count i words)

    pub fault_again : proper x ≡ true → some (same x) (symbols_of i words) ≡ true → symbol_fault (symbols_of i words) (symbols_of (count - i) left) ≡ Some i
    fault_again p q =
        ap (symbol_fault (symbols_of i words)) first_of
        ∙ ap₂ (λ (t u : Bool). cond (t && not u) (symbol_fault (symbols_of i words ++ x ∷ []) (symbols_of (count - (i + 1)) (drop (extent left) left))) (Some (length (symbols_of i words)))) p q
        ∙ ap Some (symbols_count i words)

    pub fault_next : left ≡ after_symbols i words → proper x ≡ true → some (same x) (symbols_of i words) ≡ false
        → symbol_fault (symbols_of i words) (symbols_of (count - i) left) ≡ symbol_fault (symbols_of (i + 1) words) (symbols_of (count - (i + 1)) (drop (extent left) left))
    fault_next a p q =
        ap (symbol_fault (symbols_of i words)) first_of
        ∙ ap₂ (λ (t u : Bool). cond (t && not u) (symbol_fault (symbols_of i words ++ x ∷ []) (symbols_of (count - (i + 1)) (drop (extent left) left))) (Some (length (symbols_of i words)))) p q
        ∙ ap (λ l. symbol_fault l (symbols_of (count - (i + 1)) (drop (extent left) left))) (sym (grown a))
      where
        grown : left ≡ after_symbols i words → symbols_of (i + 1) words ≡ symbols_of i words ++ x ∷ []
        grown a = symbols_more i words ∙ ap (λ (l : List ℕ). symbols_of i words ++ (take (extent l) l ∷ [])) (sym a) ∙ ap (λ (l : List ℕ). symbols_of i words ++ l ∷ []) (sym is)

    pub arities_next : (arities : List ℕ) → left ≡ after_symbols i words → arities ≡ map arity (symbols_of i words) → arities ++ arity x ∷ [] ≡ map arity (symbols_of (i + 1) words)
    arities_next arities a e =
        ap (λ (l : List ℕ). l ++ arity x ∷ []) e
        ∙ sym (map-append arity (symbols_of i words) (x ∷ []))
        ∙ ap (map arity) (sym (symbols_more i words ∙ ap (λ (l : List ℕ). symbols_of i words ++ (take (extent l) l ∷ [])) (sym a) ∙ ap (λ (l : List ℕ). symbols_of i words ++ l ∷ []) (sym is)))

-- a symbol's arity is that of its words
pub same_arity : (x : List ℕ) → (symbol_of x).arity ≡ arity x
same_arity [] = refl
same_arity (w ∷ ws) = refl

-- whether the words are the same
pub same_words : (xs ys : List ℕ) → pointwise eqb xs ys ≡ same xs ys
same_words [] [] = refl
same_words [] (y ∷ ys) = refl
same_words (x ∷ xs) [] = refl
same_words (x ∷ xs) (y ∷ ys) = ap (λ t. eqb x y && t) (same_words xs ys)

-- the loop of `repeats`
module _ (left : List ℕ) (count i : ℕ) (lt : i < count) (x y : List ℕ) (is : y ≡ take (extent left) left) where
  pub some_turn : (t : Bool) → t ≡ same x y → some (same x) (symbols_of (count - i) left) ≡ (t || some (same x) (symbols_of (count - (i + 1)) (drop (extent left) left)))
  some_turn t e = ap (some (same x)) (first_of left count i lt y is) ∙ ap (λ t. t || some (same x) (symbols_of (count - (i + 1)) (drop (extent left) left))) (sym e)

-- the words of the symbols alone
after_none : (n : ℕ) → after_symbols n [] ≡ []
after_none zero = refl
after_none (suc n) = after_none n

pub after_length : (n : ℕ) (ws : List ℕ) → length (after_symbols n ws) ≤ length ws
after_length zero ws = omega arith
after_length (suc n) ws = let ih = after_length n (drop (extent ws) ws) in let d = length-drop (extent ws) ws in omega arith

extent_take : (k : ℕ) (ws : List ℕ) → 0 < k → extent (take k ws) ≡ extent ws
extent_take zero ws h = absurd (omega arith)
extent_take (suc k) [] h = refl
extent_take (suc k) (w ∷ ws) h = refl

extent_some : (ws : List ℕ) → 0 < length ws → 0 < extent ws
extent_some [] h = absurd (omega arith)
extent_some (w ∷ ws) h = omega arith

pub symbols_alone : (n : ℕ) (ws : List ℕ) → symbols_of n (take (length ws - length (after_symbols n ws)) ws) ≡ symbols_of n ws
symbols_alone zero ws = refl
symbols_alone (suc n) ws = go (symbols_alone n (drop (extent ws) ws)) (cases_lt (length ws) (extent ws))
  where
    go : symbols_of n (take (length (drop (extent ws) ws) - length (after_symbols n (drop (extent ws) ws))) (drop (extent ws) ws)) ≡ symbols_of n (drop (extent ws) ws)
        → (length ws < extent ws) ⊎ (extent ws ≤ length ws)
        → symbols_of (suc n) (take (length ws - length (after_symbols n (drop (extent ws) ws))) ws) ≡ symbols_of (suc n) ws
    go ih (inl l) =
        let none : after_symbols n (drop (extent ws) ws) ≡ [] = ap (after_symbols n) (drop_all (extent ws) ws (omega arith)) ∙ after_none n in
        let all : length ws - length (after_symbols n (drop (extent ws) ws)) ≡ length ws = ap (λ (x : List ℕ). length ws - length x) none ∙ omega arith in
        ap (λ k. symbols_of (suc n) (take k ws)) all ∙ ap (symbols_of (suc n)) (take_all (length ws) ws (omega arith))
    go ih (inr g) = by (cases_eq (length ws) 0)
      where
        by : (length ws ≡ 0) ⊎ (length ws ≡ 0 → ⊥) → symbols_of (suc n) (take (length ws - length (after_symbols n (drop (extent ws) ws))) ws) ≡ symbols_of (suc n) ws
        by (inl z) = ap (symbols_of (suc n)) (take_all (length ws - length (after_symbols n (drop (extent ws) ws))) ws (omega arith))
        by (inr nz) =
            let k = length (drop (extent ws) ws) - length (after_symbols n (drop (extent ws) ws)) in
            let d = length-drop (extent ws) ws in
            let u = after_length n (drop (extent ws) ws) in
            let some : 0 < extent ws = extent_some ws (omega arith) in
            let total : length ws - length (after_symbols n (drop (extent ws) ws)) ≡ extent ws + k = omega arith in
            let x : extent (take (extent ws + k) ws) ≡ extent ws = extent_take (extent ws + k) ws (omega arith) in
            ap (λ j. symbols_of (suc n) (take j ws)) total
            ∙ ap (λ j. take j (take (extent ws + k) ws) ∷ symbols_of n (drop j (take (extent ws + k) ws))) x
            ∙ ap₂ (λ (a : List ℕ) (b : List ℕ). a ∷ symbols_of n b) (take-take (extent ws) (extent ws + k) ws (omega arith)) (drop-take (extent ws) k ws)
            ∙ ap (λ (l : List (List ℕ)). take (extent ws) ws ∷ l) ih
