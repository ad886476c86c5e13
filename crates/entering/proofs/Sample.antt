-- A clause that may be entered: any/1 with a variable.
use Rattle.std.proofs.Common.{◌≡◌, ℕ, zero, suc, ◌<◌, true, List, [], ◌∷◌, Some, refl, arith}
use Rattle.code.specs.Instructions.{reads}
use Rattle.code.specs.Rules.{ranged}
use Rattle.code.specs.WellFormed.{word_at}
use Rattle.entering.specs.Checks.{Runnable}

-- allocate 1; get_variable 0,1; proceed
abbrev pub words : List ℕ
words = 16842752 ∷ 33554433 ∷ 285212672 ∷ []

in_range_lem : (i : ℕ) → i < 3 → ranged 1 (1 ∷ []) (word_at words i) ≡ true
in_range_lem zero l = refl
in_range_lem (suc zero) l = refl
in_range_lem (suc (suc zero)) l = refl
in_range_lem (suc (suc (suc i))) l = absurd (omega arith)

no_read : (i y : ℕ) → i < 3 → reads (word_at words i) ≡ Some y → ⊥
no_read zero y l e = let z : ◌≡◌ {A = ℕ} 0 1 = cc in omega arith
no_read (suc zero) y l e = let z : ◌≡◌ {A = ℕ} 0 1 = cc in omega arith
no_read (suc (suc zero)) y l e = let z : ◌≡◌ {A = ℕ} 0 1 = cc in omega arith
no_read (suc (suc (suc i))) y l e = absurd (omega arith)

pub sample : Runnable (1 ∷ []) 0 words
sample = record {
  arities = 1 ∷ [];
  key = 0;
  extends = λ f l. (l, refl);
  known = omega arith;
  kept = record { v1_kept = refl; v2_kept = refl; v3_kept = refl; v4_kept = refl; v5_kept = refl; v6_kept = refl; v7_kept = refl };
  formed = record {
    few = omega arith;
    ranges = in_range_lem;
    earlier = λ i y l e. absurd (no_read i y l e);
  };
}
