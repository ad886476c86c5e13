-- The rows of an image: a clause's predicate, its key, and where its code starts.
use Rattle.std.specs.Prelude.{ℕ, zero, suc, ◌+◌, ◌-◌, Bool, cond, not, ◌&&◌, ◌||◌, List, [], ◌∷◌, take, drop, Some, None, Option, ◌==◌, nat_le, nat_lt, slice_index}
use Rattle.image.specs.declared.rows.Row.{Row}

abbrev pub row : ℕ → ℕ → ℕ → Row
row p k s = record { predicate = p; key = k; start = s }

abbrev pub row_words : Row → List ℕ
row_words r = r.predicate ∷ r.key ∷ r.start ∷ []

-- the row that three words are
abbrev pub row_of : List ℕ → Row
row_of ws = row (slice_index ws 0) (slice_index ws 1) (slice_index ws 2)

-- three words to a row
abbrev pub rows_of : List ℕ → List Row
rows_of [] = []
rows_of (p ∷ []) = []
rows_of (p ∷ k ∷ []) = []
rows_of (p ∷ k ∷ s ∷ ws) = row p k s ∷ rows_of ws

-- where the code before these rows ends: at the start of the first, or at the end of all code
abbrev pub next : ℕ → List Row → ℕ
next size [] = size
next size (r ∷ rs) = r.start

-- the code of a row whose clause's code ends there
abbrev pub code_of : List ℕ → Row → ℕ → List ℕ
code_of code r end = take (end - r.start) (drop r.start code)

-- row i, of a clause whose code ends there: predicate and key in range, the first start 0, at least two words
abbrev pub good_row : ℕ → ℕ → Row → ℕ → Bool
good_row symbols i r end =
    (nat_lt r.predicate symbols && nat_le r.key symbols)
    && ((not (i == 0) || r.start == 0) && nat_le (r.start + 2) end)

-- the lowest clause, from 1, whose row is wrong, of the rows from i on
abbrev pub row_fault : ℕ → ℕ → ℕ → List Row → Option ℕ
row_fault symbols size i [] = None
row_fault symbols size i (r ∷ rs) = cond (good_row symbols i r (next size rs)) (row_fault symbols size (i + 1) rs) (Some (i + 1))

-- row i, if there is one
abbrev pub nth : List Row → ℕ → Option Row
nth [] i = None
nth (r ∷ rs) zero = Some r
nth (r ∷ rs) (suc i) = nth rs i
