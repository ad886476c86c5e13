-- Rows in chains, one for each symbol; rows count from 0 here.
use Rattle.std.specs.Prelude.{◌≡◌, ℕ, ◌+◌, ◌<◌, ◌≤◌, List, length, Some, None, Option, slice_index_or}
use Rattle.choosers.specs.declared.chains.Link.{Link}
use Rattle.choosers.specs.declared.chains.Ends.{Ends}
use Rattle.choosers.specs.Rows.{blank}

abbrev pub link_at : List Link → ℕ → Link
link_at links i = slice_index_or links i (record { row = blank; next = None })

abbrev pub symbol_at : List Link → ℕ → ℕ
symbol_at links i = (link_at links i).row.symbol

abbrev pub key_at : List Link → ℕ → ℕ
key_at links i = (link_at links i).row.key

-- of len rows with the symbols sym, the first from low on that has s, if any
abbrev pub Least : ℕ → (ℕ → ℕ) → ℕ → ℕ → Option ℕ → Type 0
Least len sym s low None = (i : ℕ) → (low ≤ i) × (i < len) × (sym i ≡ s) → ⊥
Least len sym s low (Some n) = (low ≤ n) × (n < len) × (sym n ≡ s) × ((i : ℕ) → (low ≤ i) × (i < n) × (sym i ≡ s) → ⊥)

-- the first and the last that have s, if any
abbrev pub Spans : ℕ → (ℕ → ℕ) → ℕ → Option Ends → Type 0
Spans len sym s None = Least len sym s 0 None
Spans len sym s (Some e) = Least len sym s 0 (Some e.first) × ((e.last < len) × (sym e.last ≡ s) × Least len sym s (e.last + 1) None)

pub record Chained (links : List Link) (ends : List (Option Ends)) : Type 0 where
  pub spans : (s : ℕ) → s < 256 → Spans (length links) (symbol_at links) s (slice_index_or ends s None)
  pub steps : (i : ℕ) → i < length links → Least (length links) (symbol_at links) (symbol_at links i) (i + 1) (link_at links i).next

-- a walk from there passes every row of the symbol from `after` on
abbrev pub Starts : List Link → ℕ → ℕ → Option ℕ → Type 0
Starts links s after None = (i : ℕ) → (after ≤ i) × (i < length links) × (symbol_at links i ≡ s) → ⊥
Starts links s after (Some n) = (n < length links) × (symbol_at links n ≡ s) × ((i : ℕ) → (after ≤ i) × (i < n) × (symbol_at links i ≡ s) → ⊥)
