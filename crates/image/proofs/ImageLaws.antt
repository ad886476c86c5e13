-- The words that are accepted are just the images of proper parts.
use Rattle.std.proofs.Common.{◌≡◌, ℕ, zero, suc, ◌+◌, ◌*◌, ◌≤◌, Bool, true, false, cond, not, ◌&&◌, ◌||◌, eqb, leb, List, [], ◌∷◌, ◌++◌, map, length, take, drop, IfOk, Some, None, Ok, Err, Option, Result, sym, refl, ap, ◌∙◌, subst, ap₂, arith}
use Rattle.std.specs.List.{flat_map}
use Rattle.std.proofs.lemmas.List.{take_at, drop_at, length-append, length-drop, length-take-le, length-map, take-append-drop}
use Rattle.std.proofs.lemmas.Bool.{and_parts, and_from, eqb-true, eqb-false, eq-eqb, leb-true, le-leb, cond-true}
use Rattle.code.specs.declared.rules.Rule.{Rule}
use Rattle.code.specs.Rules.{broken, rule_number}
use Rattle.code.specs.Tests.{every, chosen}
use Rattle.code.proofs.ReadyLaws.{runnable}
use Rattle.image.specs.declared.rows.Row.{Row}
use Rattle.image.specs.declared.view.Image.{Image}
use Rattle.image.specs.declared.faults.ImageFault.{ImageFault}
use Rattle.image.specs.declared.faults.ImageFault.TheVariants.{Header, Symbol as BadSymbol, Layout, Row as BadRow, Code}
use Rattle.image.specs.Limits.{symbol_limit, clause_limit, code_limit}
use Rattle.symbol_table.specs.Symbols.{Symbol}
use Rattle.image.specs.Symbols.{symbol_words, symbol_of, symbols_of, after_symbols, symbol_fault, arity}
use Rattle.image.specs.Rows.{row_words, rows_of, next, code_of, row_fault}
use Rattle.image.specs.Checked.{Parts, unless, code_fault, fitting, laid_out, body, is_header, checked}
use Rattle.image.specs.Said.{said, parts_of}
use Rattle.image.specs.Images.{Goods, arities, Proper, laid, ImageOf, OneImage, ClauseRunnable, ClausesRunnable}
use Rattle.image.proofs.SymbolLaws.{symbols_count}
use Rattle.image.proofs.CutLaws.{Fit, Cut, no_fault, symbols_back, arities_back, symbols_cut, after_cut, cut_from, words_cut, fit_symbols, rows_length, rows_back, rows_cut}

abbrev parts : List Symbol → List Row → List ℕ → Parts
parts ss rs code = record { symbols = ss; rows = rs; code = code }

-- from parts to words
laid_out_parts : (raws : List (List ℕ)) (c k : ℕ) (ws : List ℕ) (ss : List Symbol) (rs : List Row) (code ar : List ℕ)
    → rows_of (take (3 * c) ws) ≡ rs → drop (3 * c) ws ≡ code → map symbol_of raws ≡ ss → map arity raws ≡ ar
    → fitting (length ws) c k ≡ true → row_fault (length raws) k 0 rs ≡ None → code_fault ar code 0 rs ≡ None → laid_out raws c k ws ≡ Ok (parts ss rs code)
laid_out_parts raws c k ws ss rs code ar er ec es ea f r q =
    cond-true (fitting (length ws) c k) _ _ f
    ∙ ap₂ (λ (x : List Row) (y : List ℕ). unless BadRow (row_fault (length raws) k 0 x) (unless (λ e. e) (code_fault (map arity raws) y 0 x) (Ok (parts (map symbol_of raws) x y)))) er ec
    ∙ ap₂ (λ (x : List ℕ) (y : List Symbol). unless BadRow (row_fault (length raws) k 0 rs) (unless (λ e. e) (code_fault x code 0 rs) (Ok (parts y rs code)))) ea es
    ∙ ap₂ (λ (x : Option ℕ) (y : Option ImageFault). unless BadRow x (unless (λ e. e) y (Ok (parts ss rs code)))) r q

fits : (c k n : ℕ) → n ≡ 3 * c + k → (c ≡ 0 → k ≡ 0) → fitting n c k ≡ true
fits c k n e h = and_from (eqb n (3 * c + k)) (not (eqb c 0) || eqb k 0) (eq-eqb n (3 * c + k) e) (go (eqb c 0) refl)
  where
    go : (t : Bool) → eqb c 0 ≡ t → (not t || eqb k 0) ≡ true
    go true q = eq-eqb k 0 (h (eqb-true c 0 q))
    go false q = refl

pub accepts : (p : Parts) → Proper p → checked (laid p) ≡ Ok p
accepts p h =
    let ss = p.symbols in
    let rs = p.rows in
    let code = p.code in
    let tail = flat_map row_words rs ++ code in
    let rest = flat_map symbol_words ss ++ tail in
    let s = length ss in
    let c = length rs in
    let k = length code in
    let header : is_header 1 s c k ≡ true =
    and_from (leb s symbol_limit) (leb c clause_limit && leb k code_limit) (le-leb s symbol_limit h.few_symbols)
    (and_from (leb c clause_limit) (leb k code_limit) (le-leb c clause_limit h.few_clauses) (le-leb k code_limit h.few_words)) in
    let long : length tail ≡ 3 * c + k = length-append (flat_map row_words rs) code ∙ ap (λ n. n + k) (rows_length rs) in
    let raws = map symbol_words ss in
    let done : laid_out raws c k tail ≡ Ok p =
    laid_out_parts raws c k tail ss rs code (arities p)
    (ap rows_of (take_at (flat_map row_words rs) code (3 * c) (rows_length rs)) ∙ rows_back rs)
    (drop_at (flat_map row_words rs) code (3 * c) (rows_length rs))
    (symbols_back ss h.good) (arities_back ss h.good) (fits c k (length tail) long h.no_code)
    (ap (λ n. row_fault n k 0 rs) (length-map ss symbol_words) ∙ h.rows_sound) h.code_sound in
    cond-true (is_header 1 s c k) _ _ header
    ∙ ap₂ (λ (x : List (List ℕ)) (y : List ℕ). unless BadSymbol (symbol_fault [] x) (laid_out x c k y)) (symbols_cut ss tail h.good) (after_cut ss tail h.good)
    ∙ ap (λ (o : Option ℕ). unless BadSymbol o (laid_out raws c k tail)) (no_fault ss h.good h.apart)
    ∙ done

-- from words to parts
unless_ok : {X : Type 0} (fault : X → ImageFault) (o : Option X) (r : Result Parts ImageFault) (p : Parts) → unless fault o r ≡ Ok p → (o ≡ None) × (r ≡ Ok p)
unless_ok fault None r p h = (refl, h)
unless_ok fault (Some x) r p h = cc

module _ (s c k : ℕ) (ws : List ℕ) (fit : Fit ws) (few_s : s ≤ symbol_limit) (few_c : c ≤ clause_limit) (few_k : k ≤ code_limit) (sound : symbol_fault [] (symbols_of s ws) ≡ None) where
  abbrev raws : List (List ℕ)
  raws = symbols_of s ws

  abbrev tail : List ℕ
  tail = after_symbols s ws

  abbrev found : Parts
  found = parts (map symbol_of raws) (rows_of (take (3 * c) tail)) (drop (3 * c) tail)

  cut : Cut [] raws
  cut = cut_from [] raws tt (fit_symbols s ws fit) sound

  arities_are : (xs : List (List ℕ)) → map arity xs ≡ map (λ s. s.arity) (map symbol_of xs)
  arities_are [] = refl
  arities_are ([] ∷ xs) = ap (λ (l : List ℕ). 0 ∷ l) (arities_are xs)
  arities_are ((w ∷ x) ∷ xs) = ap (λ (l : List ℕ). arity (w ∷ x) ∷ l) (arities_are xs)

  image_of : fitting (length tail) c k ≡ true → row_fault (length raws) k 0 (rows_of (take (3 * c) tail)) ≡ None → code_fault (map arity raws) (drop (3 * c) tail) 0 (rows_of (take (3 * c) tail)) ≡ None
      → ImageOf (1 ∷ s ∷ c ∷ k ∷ ws) found
  image_of f r q =
      let fp = and_parts (eqb (length tail) (3 * c + k)) (not (eqb c 0) || eqb k 0) f in
      let long = eqb-true (length tail) (3 * c + k) fp.0 in
      let rows_long : length (take (3 * c) tail) ≡ 3 * c = length-take-le (3 * c) tail (omega arith) in
      let rows = rows_cut c (take (3 * c) tail) rows_long in
      let symbols_long : length (map symbol_of raws) ≡ s = length-map raws symbol_of ∙ symbols_count s ws in
      let code_long : length (drop (3 * c) tail) ≡ k = length-drop (3 * c) tail ∙ omega arith in
      record {
        proper = record {
          few_symbols = subst (λ n. n ≤ symbol_limit) (sym symbols_long) few_s;
          few_clauses = subst (λ n. n ≤ clause_limit) (sym rows.1) few_c;
          few_words = subst (λ n. n ≤ code_limit) (sym code_long) few_k;
          good = cut.good;
          apart = cut.apart;
          no_code = λ z. code_long ∙ none (eqb c 0) refl fp.1 (sym rows.1 ∙ z);
          rows_sound = ap₂ (λ (m n : ℕ). row_fault m n 0 (rows_of (take (3 * c) tail))) (length-map raws symbol_of) code_long ∙ r;
          code_sound = ap (λ (l : List ℕ). code_fault l (drop (3 * c) tail) 0 (rows_of (take (3 * c) tail))) (sym (arities_are raws)) ∙ q;
        };
        layout =
            ap₂ (λ (x y : ℕ). 1 ∷ x ∷ y ∷ length (drop (3 * c) tail) ∷ (flat_map symbol_words (map symbol_of raws) ++ (flat_map row_words (rows_of (take (3 * c) tail)) ++ drop (3 * c) tail))) symbols_long rows.1
            ∙ ap₂ (λ (x : ℕ) (y : List ℕ). 1 ∷ s ∷ c ∷ x ∷ (flat_map symbol_words (map symbol_of raws) ++ (y ++ drop (3 * c) tail))) code_long rows.0
            ∙ ap (λ (y : List ℕ). 1 ∷ s ∷ c ∷ k ∷ (flat_map symbol_words (map symbol_of raws) ++ y)) (take-append-drop (3 * c) tail)
            ∙ ap (λ (y : List ℕ). 1 ∷ s ∷ c ∷ k ∷ y) (words_cut s ws cut.trips);
      }
    where
      none : (t : Bool) → eqb c 0 ≡ t → (not t || eqb k 0) ≡ true → c ≡ 0 → k ≡ 0
      none true e h z = eqb-true k 0 h
      none false e h z = absurd (eqb-false c 0 e z)

  laid_image : (p : Parts) → laid_out raws c k tail ≡ Ok p → ImageOf (1 ∷ s ∷ c ∷ k ∷ ws) p
  laid_image p = go (fitting (length tail) c k) refl
    where
      go : (t : Bool) → fitting (length tail) c k ≡ t
          → cond t (unless BadRow (row_fault (length raws) k 0 (rows_of (take (3 * c) tail))) (unless (λ e. e) (code_fault (map arity raws) (drop (3 * c) tail) 0 (rows_of (take (3 * c) tail))) (Ok found))) (Err Layout) ≡ Ok p
          → ImageOf (1 ∷ s ∷ c ∷ k ∷ ws) p
      go false f h = cc
      go true f h =
          let a = unless_ok BadRow (row_fault (length raws) k 0 (rows_of (take (3 * c) tail))) _ p h in
          let b = unless_ok (λ e. e) (code_fault (map arity raws) (drop (3 * c) tail) 0 (rows_of (take (3 * c) tail))) _ p a.1 in
          let is : found ≡ p = (let e = b.1 in cc) in
          subst (ImageOf (1 ∷ s ∷ c ∷ k ∷ ws)) is (image_of f a.0 b.0)

pub accepted : (ws : List ℕ) (p : Parts) → Fit ws → checked ws ≡ Ok p → ImageOf ws p
accepted [] p fit h = cc
accepted (f ∷ []) p fit h = cc
accepted (f ∷ s ∷ []) p fit h = cc
accepted (f ∷ s ∷ c ∷ []) p fit h = cc
accepted (f ∷ s ∷ c ∷ k ∷ ws) p fit h = go (is_header f s c k) refl h
  where
    go : (t : Bool) → is_header f s c k ≡ t → cond t (body s c k ws) (Err Header) ≡ Ok p → ImageOf (f ∷ s ∷ c ∷ k ∷ ws) p
    go false e h = cc
    go true e h =
        let a = and_parts (eqb f 1) (leb s symbol_limit && (leb c clause_limit && leb k code_limit)) e in
        let b = and_parts (leb s symbol_limit) (leb c clause_limit && leb k code_limit) a.1 in
        let d = and_parts (leb c clause_limit) (leb k code_limit) b.1 in
        let o = unless_ok BadSymbol (symbol_fault [] (symbols_of s ws)) (laid_out (symbols_of s ws) c k (after_symbols s ws)) p h in
        subst (λ x. ImageOf (x ∷ s ∷ c ∷ k ∷ ws) p) (sym (eqb-true f 1 a.0))
        (laid_image s c k ws fit.1.1.1.1 (leb-true s symbol_limit b.0) (leb-true c clause_limit d.0) (leb-true k code_limit d.1) o.0 p o.1)

pub one_image_lem : (r : Result Parts ImageFault) (ws : List ℕ) → Fit ws → r ≡ checked ws → OneImage ws r
one_image_lem r ws fit e p = (
  (λ h. accepted ws p fit (sym e ∙ h)),
  (λ h. e ∙ ap checked (sym h.layout) ∙ accepts p h.proper),
)

-- the clauses can be run
low_arities : (ss : List Symbol) → Goods ss → every (λ a. leb a 8) (map (λ s. s.arity) ss) ≡ true
low_arities [] g = refl
low_arities (s ∷ ss) g = and_from (leb s.arity 8) (every (λ a. leb a 8) (map (λ s. s.arity) ss)) (le-leb s.arity 8 g.0.1) (low_arities ss g.1)

clause_runnable : (ar code : List ℕ) → every (λ a. leb a 8) ar ≡ true → (rs : List Row) (i : ℕ) → code_fault ar code i rs ≡ None → (j : ℕ) → ClauseRunnable ar code rs j
clause_runnable ar code low [] i h j = tt
clause_runnable ar code low (r ∷ rs) i h j = go (λ e. clause_runnable ar code low rs (i + 1) e) (broken ar r.predicate r.key (code_of code r (next (length code) rs))) refl h j
  where
    go : (code_fault ar code (i + 1) rs ≡ None → (j : ℕ) → ClauseRunnable ar code rs j) → (v : Option Rule) → broken ar r.predicate r.key (code_of code r (next (length code) rs)) ≡ v
        → chosen v (λ rule. Some (Code (i + 1) (rule_number rule))) (code_fault ar code (i + 1) rs) ≡ None → (j : ℕ) → ClauseRunnable ar code (r ∷ rs) j
    go ih None e h zero = runnable ar r.predicate r.key (code_of code r (next (length code) rs)) low e
    go ih None e h (suc j) = ih h j
    go ih (Some v) e h j = cc

pub clauses_runnable : (r : Result Image ImageFault) (ws : List ℕ) → Fit ws → said r ≡ checked ws → IfOk r (λ i. ClausesRunnable (parts_of i))
clauses_runnable (Ok i) ws fit e =
    let p = (accepted ws (parts_of i) fit (sym e)).proper in
    λ j. clause_runnable (arities (parts_of i)) (parts_of i).code (low_arities (parts_of i).symbols p.good) (parts_of i).rows 0 p.code_sound j
clauses_runnable (Err e) ws fit h = tt
