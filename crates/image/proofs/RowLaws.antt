-- Rows by number.
use Rattle.std.proofs.Common.{◌≡◌, ℕ, zero, suc, ◌+◌, ◌-◌, ◌/◌, ◌<◌, ◌≤◌, Bool, true, false, cond, not, ◌&&◌, ◌||◌, eqb, ltb, leb, List, [], ◌∷◌, map, length, get_or, take, drop, Some, None, sym, refl, ap, ◌∙◌, ap₂, arith}
use Rattle.std.specs.Simd.{first_chunks}
use Rattle.std.proofs.lemmas.List.{at_drop_more, take_rest}
use Rattle.std.proofs.lemmas.Bool.{and_parts, leb-true}
use Rattle.image.specs.declared.rows.Row.{Row}
use Rattle.image.specs.Rows.{row, row_of, rows_of, next, good_row, row_fault, nth}

-- the words by threes
pub rows_by_threes : (ws : List ℕ) → map row_of (first_chunks 3 (length ws / 3) ws) ≡ rows_of ws
rows_by_threes [] = refl
rows_by_threes (p ∷ []) = refl
rows_by_threes (p ∷ k ∷ []) = refl
rows_by_threes (p ∷ k ∷ s ∷ ws) =
    let e : suc (suc (suc (length ws))) / 3 ≡ suc (length ws / 3) = omega arith in
    ap (λ n. map row_of (first_chunks 3 n (p ∷ k ∷ s ∷ ws))) e ∙ ap (λ (l : List Row). row p k s ∷ l) (rows_by_threes ws)

row_good : (s k i : ℕ) (r : Row) (rs : List Row) → row_fault s k i (r ∷ rs) ≡ None → (good_row s i r (next k rs) ≡ true) × (row_fault s k (i + 1) rs ≡ None)
row_good s k i r rs h = go (good_row s i r (next k rs)) refl h
  where
    go : (t : Bool) → good_row s i r (next k rs) ≡ t → cond t (row_fault s k (i + 1) rs) (Some (i + 1)) ≡ None → (good_row s i r (next k rs) ≡ true) × (row_fault s k (i + 1) rs ≡ None)
    go true e h = (e, h)
    go false e h = cc

start_low : (s i : ℕ) (r : Row) (end : ℕ) → good_row s i r end ≡ true → r.start + 2 ≤ end
start_low s i r end h =
    let p = and_parts (ltb r.predicate s && leb r.key s) ((not (eqb i 0) || eqb r.start 0) && leb (r.start + 2) end) h in
    let q = and_parts (not (eqb i 0) || eqb r.start 0) (leb (r.start + 2) end) p.1 in
    leb-true (r.start + 2) end q.1

bounded : (s k : ℕ) (rs : List Row) (i : ℕ) → row_fault s k i rs ≡ None → next k rs ≤ k
bounded s k [] i h = omega arith
bounded s k (r ∷ rs) i h =
    let p = row_good s k i r rs h in
    let a = start_low s i r (next k rs) p.0 in
    let b = bounded s k rs (i + 1) p.1 in
    omega arith

-- the code of row i, where the rows before it are right
pub code_within : (rows : List (List ℕ)) (i : ℕ) (words : List ℕ) (symbols size : ℕ) (r : Row) (end : ℕ) → i < length rows → r ≡ row_of (get_or rows i words)
    → end ≡ next size (map row_of (take (length rows - (i + 1)) (drop (i + 1) rows))) → row_fault symbols size i (map row_of (drop i rows)) ≡ None → (r.start + 2 ≤ end) × (end ≤ size)
code_within rows i words symbols size r end lt p q fine =
    let e : end ≡ next size (map row_of (drop (i + 1) rows)) = q ∙ ap (λ (l : List (List ℕ)). next size (map row_of l)) (take_rest rows (i + 1)) in
    let o = row_good symbols size i (row_of (get_or rows i words)) (map row_of (drop (i + 1) rows)) (sym (at_drop_more (λ l. row_fault symbols size i (map row_of l)) rows i words lt) ∙ fine) in
    let b = bounded symbols size (map row_of (drop (i + 1) rows)) (i + 1) o.1 in
    (start_low symbols i r end (ap₂ (good_row symbols i) p e ∙ o.0), omega arith)

-- row i, if there is one
pub nth_row : (rows : List (List ℕ)) (i : ℕ) (words : List ℕ) → i < length rows → words ≡ get_or rows i words → nth (map row_of rows) i ≡ Some (row_of words)
nth_row [] i words h e = absurd (omega arith)
nth_row (r ∷ rows) zero words h e = ap (λ w. Some (row_of w)) (sym e)
nth_row (r ∷ rows) (suc i) words h e = nth_row rows i words (omega arith) e

pub nth_past : (rows : List (List ℕ)) (i : ℕ) → length rows ≤ i → nth (map row_of rows) i ≡ None
nth_past [] i h = refl
nth_past (r ∷ rows) zero h = absurd (omega arith)
nth_past (r ∷ rows) (suc i) h = nth_past rows i (omega arith)
