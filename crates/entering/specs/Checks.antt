-- Code that the check has accepted, for a table that has the check's symbols and may have more.
use Rattle.std.specs.Prelude.{◌≡◌, ℕ, ◌<◌, List, length, slice_index}
use Rattle.code.specs.WellFormed.{Kept, WellFormed}

abbrev pub Extends : List ℕ → List ℕ → Type 0
Extends arities table = (f : ℕ) → f < length arities → (f < length table) × (slice_index table f ≡ slice_index arities f)

-- the words are a clause of the predicate p; less is asked of them than `Runnable` of code has, and of a table that may have more symbols
pub record Runnable (table : List ℕ) (p : ℕ) (words : List ℕ) : Type 0 where
  pub arities : List ℕ
  pub key : ℕ
  pub extends : Extends arities table
  pub known : p < length arities
  pub kept : Kept arities p key words
  pub formed : WellFormed arities words
