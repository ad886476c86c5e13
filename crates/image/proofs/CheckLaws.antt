-- The check as a whole.
use Rattle.std.proofs.Common.{◌≡◌, ℕ, ◌+◌, ◌-◌, ◌*◌, true, not, ◌||◌, eqb, List, [], map, length, take, drop, Some, None, Ok, Err, Option, Result, sym, refl, ap, ◌∙◌, ap₂, arith}
use Rattle.std.proofs.lemmas.List.{length-map, length-drop}
use Rattle.std.proofs.lemmas.Bool.{and_parts, cond-true, eqb-true}
use Rattle.std.specs.Option.{option_map}
use Rattle.image.specs.declared.faults.ImageFault.{ImageFault}
use Rattle.image.specs.declared.faults.ImageFault.TheVariants.{Symbol, Row as BadRow}
use Rattle.image.specs.Symbols.{symbol_of, symbols_of, after_symbols, symbol_fault, arity}
use Rattle.image.specs.declared.rows.Row.{Row}
use Rattle.image.specs.Rows.{row_of, rows_of, row_fault}
use Rattle.image.proofs.SymbolLaws.{symbols_alone, symbols_count}
use Rattle.image.specs.Checked.{Parts, unless, code_fault, fitting, laid_out, body}

-- a step that refused nothing
no_fault : (f : ℕ → ImageFault) (o : Option ℕ) → None ≡ option_map f o → o ≡ None
no_fault f None e = refl
no_fault f (Some x) e = cc

-- the words after the symbols, split into rows and code
module _ (words : List ℕ) (s c k : ℕ) (ws front : List ℕ) (rows : List (List ℕ)) (code ar : List ℕ) (fits : fitting (length ws) c k ≡ true) (front_is : front ≡ take (3 * c) ws)
    (rows_are : map row_of rows ≡ rows_of front) (code_is : code ≡ drop (3 * c) ws) (ar_is : ar ≡ map arity (symbols_of s words)) where
  abbrev syms : List (List ℕ)
  syms = symbols_of s words

  abbrev table : List Row
  table = map row_of rows

  abbrev after : Option ℕ → Option ImageFault → Result Parts ImageFault
  after o e = unless BadRow o (unless (λ x. x) e (Ok (record { symbols = map symbol_of syms; rows = table; code = code })))

  table_is : table ≡ rows_of (take (3 * c) ws)
  table_is = rows_are ∙ ap rows_of front_is

  laid : (o : Option ℕ) (e : Option ImageFault) → o ≡ row_fault s k 0 table → e ≡ code_fault ar code 0 table → after o e ≡ laid_out syms c k ws
  laid o e p q =
      ap₂ after p q
      ∙ ap₂ (λ (m : ℕ) (a : List ℕ). after (row_fault m k 0 table) (code_fault a code 0 table)) (sym (symbols_count s words)) ar_is
      ∙ ap₂ (λ (r : List Row) (d : List ℕ). unless BadRow (row_fault (length syms) k 0 r) (unless (λ x. x) (code_fault (map arity syms) d 0 r) (Ok (record { symbols = map symbol_of syms; rows = r; code = d })))) table_is code_is
      ∙ sym (cond-true (fitting (length ws) c k) _ _ fits)

  pub laid_row : (e : ImageFault) → Some e ≡ option_map BadRow (row_fault s k 0 table) → Err e ≡ laid_out syms c k ws
  laid_row e p = go (row_fault s k 0 table) refl p
    where
      go : (o : Option ℕ) → row_fault s k 0 table ≡ o → Some e ≡ option_map BadRow o → Err e ≡ laid_out syms c k ws
      go None q p = cc
      go (Some x) q p = let a : ◌≡◌ {A = Result Parts ImageFault} (Err e) (Err (BadRow x)) = cc in a ∙ laid (Some x) (code_fault ar code 0 table) (sym q) refl

  pub laid_code : None ≡ option_map BadRow (row_fault s k 0 table) → (x : ImageFault) → Some x ≡ code_fault ar code 0 table → Err x ≡ laid_out syms c k ws
  laid_code p x q = laid None (Some x) (sym (no_fault BadRow (row_fault s k 0 table) p)) q

  pub laid_ok : None ≡ option_map BadRow (row_fault s k 0 table) → None ≡ code_fault ar code 0 table → Ok (record { symbols = map symbol_of syms; rows = rows_of front; code = code }) ≡ laid_out syms c k ws
  laid_ok p q = ap (λ (r : List Row). Ok (record { symbols = map symbol_of syms; rows = r; code = code })) (sym rows_are) ∙ laid None None (sym (no_fault BadRow (row_fault s k 0 table) p)) q

  pub rows_sound : None ≡ option_map BadRow (row_fault s k 0 table) → row_fault (length ar) (length code) 0 table ≡ None
  rows_sound h =
      let l = eqb-true (length ws) (3 * c + k) (and_parts (eqb (length ws) (3 * c + k)) (not (eqb c 0) || eqb k 0) fits).0 in
      let m : length code ≡ k = ap length code_is ∙ length-drop (3 * c) ws ∙ omega arith in
      ap₂ (λ (x y : ℕ). row_fault x y 0 table) (ap length ar_is ∙ length-map syms arity ∙ symbols_count s words) m ∙ no_fault BadRow (row_fault s k 0 table) h

-- the symbols' words alone
pub alone : (s : ℕ) (ws left symbols : List ℕ) → left ≡ after_symbols s ws → symbols ≡ take (length ws - length left) ws → symbols_of s symbols ≡ symbols_of s ws
alone s ws left symbols e q = ap (symbols_of s) (q ∙ ap (λ (l : List ℕ). take (length ws - length l) ws) e) ∙ symbols_alone s ws

pub body_done : (s c k : ℕ) (ws left symbols : List ℕ) (r : Result Parts ImageFault) → left ≡ after_symbols s ws → symbols ≡ take (length ws - length left) ws → None ≡ option_map Symbol (symbol_fault [] (symbols_of s ws))
    → r ≡ laid_out (symbols_of s symbols) c k left → r ≡ body s c k ws
body_done s c k ws left symbols r e q f h =
    h ∙ ap₂ (λ (x : List (List ℕ)) (y : List ℕ). laid_out x c k y) (alone s ws left symbols e q) e
    ∙ sym (ap (λ (o : Option ℕ). unless Symbol o (laid_out (symbols_of s ws) c k (after_symbols s ws))) (no_fault Symbol (symbol_fault [] (symbols_of s ws)) f))
