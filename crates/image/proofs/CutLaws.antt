-- Symbols and rows cut from words, and laid out as words.
use Rattle.std.proofs.Common.{◌≡◌, ℕ, zero, suc, ◌*◌, ◌^◌, ◌<◌, Bool, true, false, cond, not, ◌&&◌, ◌||◌, List, [], ◌∷◌, ◌++◌, map, length, take, drop, Some, None, sym, refl, ap, ◌∙◌, subst, ap₂, append_assoc, arith, rules}
use Rattle.std.specs.List.{flat_map, AllByRecursion}
use Rattle.std.specs.Bool.{Decides}
use Rattle.std.proofs.lemmas.Slice.Eq.{compares_Decides}
use Rattle.std.proofs.lemmas.List.{take_at, drop_at, take-append-drop, map-append}
use Rattle.std.proofs.lemmas.Bool.{both_ways}
use Rattle.code.specs.Tests.{some}
use Rattle.image.specs.declared.rows.Row.{Row}
use Rattle.symbol_table.specs.Symbols.{Symbol}
use Rattle.image.specs.Symbols.{symbol_words, symbol_of, extent, symbols_of, after_symbols, proper, same, symbol_fault, arity}
use Rattle.image.specs.Rows.{row_words, rows_of}
use Rattle.image.specs.Images.{Good, Goods, Absent, Apart}
use Rattle.image.proofs.SpellLaws.{arity_is, words_length, proper_symbol, symbol_words_lem, words_good, words_symbol}

abbrev pub Fit : List ℕ → Type 0
Fit ws = AllByRecursion (λ w. w < 2 ^ 32) ws

-- the same words
same_decides : (xs ys : List ℕ) → Decides (same xs ys) (xs ≡ ys)
same_decides = compares_Decides same (search rules)

-- laying out: good symbols that are apart have no fault
apart_words : (s t : Symbol) → Good s → Good t → (s ≡ t → ⊥) → same (symbol_words s) (symbol_words t) ≡ false
apart_words s t g h ne = go (same (symbol_words s) (symbol_words t)) refl
  where
    go : (b : Bool) → same (symbol_words s) (symbol_words t) ≡ b → b ≡ false
    go false e = refl
    go true e = absurd (ne (sym (symbol_words_lem s g) ∙ ap symbol_of ((same_decides (symbol_words s) (symbol_words t)).0 e) ∙ symbol_words_lem t h))

absent_words : (s : Symbol) (es : List Symbol) → Good s → Goods es → Absent s es → some (same (symbol_words s)) (map symbol_words es) ≡ false
absent_words s [] g gs a = refl
absent_words s (e ∷ es) g gs a =
    ap₂ (λ (x y : Bool). x || y) (apart_words s e g gs.0 a.0) (absent_words s es g gs.1 a.1)

goods_push : (es : List Symbol) (s : Symbol) → Goods es → Good s → Goods (es ++ s ∷ [])
goods_push [] s gs g = (g, tt)
goods_push (e ∷ es) s gs g = (gs.0, goods_push es s gs.1 g)

no_fault_from : (es ss : List Symbol) → Goods es → Goods ss → Apart es ss → symbol_fault (map symbol_words es) (map symbol_words ss) ≡ None
no_fault_from es [] ge gs a = refl
no_fault_from es (s ∷ ss) ge gs a =
    ap₂ (λ (x y : Bool). cond (x && not y) (symbol_fault (map symbol_words es ++ symbol_words s ∷ []) (map symbol_words ss)) (Some (length (map symbol_words es))))
    (proper_symbol s gs.0) (absent_words s es gs.0 ge a.0)
    ∙ ap (λ (l : List (List ℕ)). symbol_fault l (map symbol_words ss)) (sym (map-append symbol_words es (s ∷ [])))
    ∙ no_fault_from (es ++ s ∷ []) ss (goods_push es s ge gs.0) gs.1 a.1

pub no_fault : (ss : List Symbol) → Goods ss → Apart [] ss → symbol_fault [] (map symbol_words ss) ≡ None
no_fault ss g a = no_fault_from [] ss tt g a

pub symbols_back : (ss : List Symbol) → Goods ss → map symbol_of (map symbol_words ss) ≡ ss
symbols_back [] g = refl
symbols_back (s ∷ ss) g = ap₂ ◌∷◌ (symbol_words_lem s g.0) (symbols_back ss g.1)

pub arities_back : (ss : List Symbol) → Goods ss → map arity (map symbol_words ss) ≡ map (λ s. s.arity) ss
arities_back [] g = refl
arities_back (s ∷ ss) g = ap₂ ◌∷◌ (arity_is s g.0) (arities_back ss g.1)

module _ (s : Symbol) (g : Good s) (more : List ℕ) where
  extent_is : extent (symbol_words s ++ more) ≡ length (symbol_words s)
  extent_is = let e = words_length s g in omega arith

  first_cut : take (extent (symbol_words s ++ more)) (symbol_words s ++ more) ≡ symbol_words s
  first_cut = take_at (symbol_words s) more (extent (symbol_words s ++ more)) (sym extent_is)

  rest_cut : drop (extent (symbol_words s ++ more)) (symbol_words s ++ more) ≡ more
  rest_cut = drop_at (symbol_words s) more (extent (symbol_words s ++ more)) (sym extent_is)

pub symbols_cut : (ss : List Symbol) (tail : List ℕ) → Goods ss → symbols_of (length ss) (flat_map symbol_words ss ++ tail) ≡ map symbol_words ss
symbols_cut [] tail g = refl
symbols_cut (s ∷ ss) tail g =
    ap (symbols_of (suc (length ss))) (append_assoc (symbol_words s) (flat_map symbol_words ss) tail)
    ∙ ap₂ ◌∷◌ (first_cut s g.0 (flat_map symbol_words ss ++ tail)) (ap (symbols_of (length ss)) (rest_cut s g.0 (flat_map symbol_words ss ++ tail)) ∙ symbols_cut ss tail g.1)

pub after_cut : (ss : List Symbol) (tail : List ℕ) → Goods ss → after_symbols (length ss) (flat_map symbol_words ss ++ tail) ≡ tail
after_cut [] tail g = refl
after_cut (s ∷ ss) tail g =
    ap (after_symbols (suc (length ss))) (append_assoc (symbol_words s) (flat_map symbol_words ss) tail)
    ∙ ap (after_symbols (length ss)) (rest_cut s g.0 (flat_map symbol_words ss ++ tail)) ∙ after_cut ss tail g.1

-- cutting: words without a fault are those of good symbols that are apart
abbrev Trips : List (List ℕ) → Type 0
Trips xs = AllByRecursion (λ x. symbol_words (symbol_of x) ≡ x) xs

absent_symbols : (x : List ℕ) (es : List (List ℕ)) → symbol_words (symbol_of x) ≡ x → Trips es → some (same x) es ≡ false → Absent (symbol_of x) (map symbol_of es)
absent_symbols x [] t ts h = tt
absent_symbols x (e ∷ es) t ts h = go (absent_symbols x es t ts.1) (same x e) refl h
  where
    go : (some (same x) es ≡ false → Absent (symbol_of x) (map symbol_of es)) → (b : Bool) → same x e ≡ b → (b || some (same x) es) ≡ false → Absent (symbol_of x) (map symbol_of (e ∷ es))
    go ih true q h = cc
    go ih false q h = (
      (λ w. both_ways (same x e) q (ap (λ (y : List ℕ). same y e) (sym t ∙ ap symbol_words w ∙ ts.0) ∙ (same_decides e e).1 refl)),
      ih h,
    )

trips_push : (es : List (List ℕ)) (x : List ℕ) → Trips es → symbol_words (symbol_of x) ≡ x → Trips (es ++ x ∷ [])
trips_push [] x ts t = (t, tt)
trips_push (e ∷ es) x ts t = (ts.0, trips_push es x ts.1 t)

pub record Cut (es xs : List (List ℕ)) : Type 0 where
  pub good : Goods (map symbol_of xs)
  pub apart : Apart (map symbol_of es) (map symbol_of xs)
  pub trips : Trips xs

pub cut_from : (es xs : List (List ℕ)) → Trips es → AllByRecursion Fit xs → symbol_fault es xs ≡ None → Cut es xs
cut_from es [] te f h = record { good = tt; apart = tt; trips = tt }
cut_from es (x ∷ xs) te f h = go (cut_from (es ++ x ∷ []) xs) (proper x) (some (same x) es) refl refl h
  where
    go : (Trips (es ++ x ∷ []) → AllByRecursion Fit xs → symbol_fault (es ++ x ∷ []) xs ≡ None → Cut (es ++ x ∷ []) xs) → (a b : Bool) → proper x ≡ a → some (same x) es ≡ b
        → cond (a && not b) (symbol_fault (es ++ x ∷ []) xs) (Some (length es)) ≡ None → Cut es (x ∷ xs)
    go ih true false p q h =
        let t = words_symbol x f.0 p in
        let r = ih (trips_push es x te t) f.1 h in
        record {
          good = (words_good x p, r.good);
          apart = (absent_symbols x es t te q, subst (λ (l : List Symbol). Apart l (map symbol_of xs)) (map-append symbol_of es (x ∷ [])) r.apart);
          trips = (t, r.trips);
        }
    go ih true true p q h = cc
    go ih false b p q h = cc

pub words_cut : (n : ℕ) (ws : List ℕ) → Trips (symbols_of n ws) → flat_map symbol_words (map symbol_of (symbols_of n ws)) ++ after_symbols n ws ≡ ws
words_cut zero ws t = refl
words_cut (suc n) ws t =
    append_assoc (symbol_words (symbol_of (take (extent ws) ws))) (flat_map symbol_words (map symbol_of (symbols_of n (drop (extent ws) ws)))) (after_symbols n (drop (extent ws) ws))
    ∙ ap₂ (λ (a b : List ℕ). a ++ b) t.0 (words_cut n (drop (extent ws) ws) t.1)
    ∙ take-append-drop (extent ws) ws

fit_take : (n : ℕ) (ws : List ℕ) → Fit ws → Fit (take n ws)
fit_take zero ws f = tt
fit_take (suc n) [] f = tt
fit_take (suc n) (w ∷ ws) f = (f.0, fit_take n ws f.1)

fit_drop : (n : ℕ) (ws : List ℕ) → Fit ws → Fit (drop n ws)
fit_drop zero ws f = f
fit_drop (suc n) [] f = tt
fit_drop (suc n) (w ∷ ws) f = fit_drop n ws f.1

pub fit_symbols : (n : ℕ) (ws : List ℕ) → Fit ws → AllByRecursion Fit (symbols_of n ws)
fit_symbols zero ws f = tt
fit_symbols (suc n) ws f = (fit_take (extent ws) ws f, fit_symbols n (drop (extent ws) ws) (fit_drop (extent ws) ws f))

-- rows
pub rows_length : (rs : List Row) → length (flat_map row_words rs) ≡ 3 * length rs
rows_length [] = refl
rows_length (r ∷ rs) = let ih = rows_length rs in omega arith

pub rows_back : (rs : List Row) → rows_of (flat_map row_words rs) ≡ rs
rows_back [] = refl
rows_back (r ∷ rs) = ap (λ (l : List Row). r ∷ l) (rows_back rs)

pub rows_cut : (c : ℕ) (ws : List ℕ) → length ws ≡ 3 * c → (flat_map row_words (rows_of ws) ≡ ws) × (length (rows_of ws) ≡ c)
rows_cut zero [] h = (refl, refl)
rows_cut zero (p ∷ ws) h = absurd (omega arith)
rows_cut (suc c) [] h = absurd (omega arith)
rows_cut (suc c) (p ∷ []) h = absurd (omega arith)
rows_cut (suc c) (p ∷ k ∷ []) h = absurd (omega arith)
rows_cut (suc c) (p ∷ k ∷ s ∷ ws) h =
    let ih = rows_cut c ws (omega arith) in
    (ap (λ (l : List ℕ). p ∷ k ∷ s ∷ l) ih.0, ap suc ih.1)
