-- Lists of the first values of a function.
use Rattle.std.proofs.Common.{◌≡◌, ℕ, zero, suc, ◌+◌, ◌<◌, ◌≤◌, [], ◌∷◌, ◌++◌, map, length, get_or, take, sym, refl, ap, ◌∙◌, inl, inr, arith, length-append}
use Rattle.std.proofs.lemmas.List.{get_or_push, get_or_append_left, get_or_past, map-append, take_more}
use Rattle.std.proofs.lemmas.Bool.{cases_eq, cases_lt}
use Rattle.symbol_table.specs.Tables.{up_to, symbol_in, signature}
use Rattle.symbol_table.specs.Symbols.{arity_at}
use Rattle.symbol_table.specs.declared.table.SymbolTable.{SymbolTable}

pub up_to_long : {X : Type 0} (n : ℕ) (f : ℕ → X) → length (up_to n f) ≡ n
up_to_long zero f = refl
up_to_long (suc n) f = length-append (up_to n f) (f n ∷ []) ∙ omega (arith, up_to_long n f)

pub up_to_at : {X : Type 0} (n : ℕ) (f : ℕ → X) (k : ℕ) (d : X) → k < n → get_or (up_to n f) k d ≡ f k
up_to_at zero f k d lt = absurd (omega arith)
up_to_at (suc n) f k d lt =
    elim (cases_eq k n) [
      | inl q ↦ get_or_push (up_to n f) (f n) d k (up_to_long n f ∙ sym q) ∙ ap f (sym q)
      | inr ne ↦ get_or_append_left (up_to n f) (f n ∷ []) d k (omega (arith, up_to_long n f)) ∙ up_to_at n f k d (omega arith)
    ]

pub up_to_past : {X : Type 0} (n : ℕ) (f : ℕ → X) (k : ℕ) (d : X) → n ≤ k → get_or (up_to n f) k d ≡ d
up_to_past n f k d le = get_or_past (up_to n f) k d (omega (arith, up_to_long n f))

-- the arities of the first n symbols
pub arities_up_to : (t : SymbolTable) (n : ℕ) → n ≤ length t.arities → map (λ s. s.arity) (up_to n (symbol_in t)) ≡ take n t.arities
arities_up_to t zero h = refl
arities_up_to t (suc n) h =
    map-append (λ s. s.arity) (up_to n (symbol_in t)) (symbol_in t n ∷ [])
    ∙ ap (λ l. l ++ get_or t.arities n 0 ∷ []) (arities_up_to t n (omega arith))
    ∙ sym (take_more t.arities n 0 (omega arith))
    ∙ ap (λ k. take k t.arities) (let z : n + 1 ≡ suc n = omega arith in z)

pub signature_long : (t : SymbolTable) → length (signature t) ≡ t.len
signature_long t = up_to_long t.len (symbol_in t)

pub signature_small : (t : SymbolTable) (f : ℕ) → arity_at (signature t) f ≤ 8
signature_small t f =
    elim (cases_lt f t.len) [
      | inl lt ↦ omega (arith, ap (λ s. s.arity) (up_to_at t.len (symbol_in t) f (record { name = []; arity = 0 }) lt), t.small f)
      | inr ge ↦ omega (arith, ap (λ s. s.arity) (up_to_past t.len (symbol_in t) f (record { name = []; arity = 0 }) ge))
    ]
