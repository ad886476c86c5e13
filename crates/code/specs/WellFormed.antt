-- What a clause's code that keeps the rules gives.
use Rattle.std.specs.Prelude.{◌≡◌, ℕ, ◌+◌, ◌<◌, ◌≤◌, true, List, [], map, length, Some, slice_index}
use Rattle.horn.specs.Terms.{Name}
use Rattle.code.specs.declared.instructions.Instruction.{Instruction}
use Rattle.code.specs.Limits.{argument_limit}
use Rattle.code.specs.Ready.{Ready}
use Rattle.code.specs.Meaning.{Symbols, Defined}
use Rattle.code.specs.Instructions.{sets, reads}
use Rattle.code.specs.Words.{decode}
use Rattle.code.specs.Rules.{opened, ranged, v1, v2, v3, v4, v5, v6, v7}

-- the rules
pub record Kept (arities : List ℕ) (predicate key : ℕ) (ws : List ℕ) : Type 0 where
  pub v1_kept : v1 arities ws ≡ true
  pub v2_kept : v2 (map decode ws) ≡ true
  pub v3_kept : v3 (map decode ws) ≡ true
  pub v4_kept : v4 arities (map decode ws) ≡ true
  pub v5_kept : v5 (opened ws) arities (map decode ws) ≡ true
  pub v6_kept : v6 (slice_index arities predicate) arities (map decode ws) ≡ true
  pub v7_kept : v7 key (map decode ws) ≡ true

abbrev pub word_at : List ℕ → ℕ → Instruction
word_at ws i = decode (slice_index ws i)

-- slots and symbols in range, slots few, and each slot that a word reads set by an earlier word
pub record WellFormed (arities : List ℕ) (ws : List ℕ) : Type 0 where
  pub few : opened ws ≤ 128
  pub ranges : (i : ℕ) → i < length ws → ranged (opened ws) arities (word_at ws i) ≡ true
  pub earlier : (i y : ℕ) → i < length ws → reads (word_at ws i) ≡ Some y → (k : ℕ) × ((k < i) × (sets (word_at ws k) ≡ Some y))

-- symbols with these arities
abbrev pub symbols_by : (ℕ → Name) → List ℕ → Symbols
symbols_by names arities = record { name = names; arity = λ f. slice_index arities f }

-- all that is known of the code of a clause
pub record Runnable (arities : List ℕ) (predicate key : ℕ) (ws : List ℕ) : Type 0 where
  pub kept : Kept arities predicate key ws
  pub formed : WellFormed arities ws
  pub ready : Ready (λ f. slice_index arities f) (slice_index arities predicate) (opened ws) (argument_limit + 1) [] [] (map decode ws)
  pub defined : (names : ℕ → Name) → Defined (symbols_by names arities) (slice_index arities predicate) (opened ws) (map decode ws)
