-- Where a run ends, and what stands before and after.
use Rattle.std.proofs.Common.{◌≡◌, ◌==◌, cond, ℕ, suc, ◌-◌, ◌<◌, Bool, true, false, eqb, List, [], ◌∷◌, length, ltb, not, take, drop, None, Some, sym, refl, ap, ◌∙◌, ap₂, arith}
use Rattle.std.proofs.lemmas.List.{take_rest}
use Rattle.std.proofs.lemmas.Bool.{ltb-false, ne_eqb}
use Rattle.std.specs.List.{position, position_or_len}
use Rattle.std.specs.Option.{unwrap_or}
use Rattle.std.proofs.lemmas.List.Sums.{prefix_len-le-length}
use Rattle.std.proofs.lemmas.List.Recursion.{is_position_or_len}
use Rattle.lines.specs.Words.{run}
use Rattle.lines.specs.Fields.{after}
use Rattle.lines.proofs.FieldLaws.{split_is}

run_is : (c : ℕ) (xs : List ℕ) → run c xs ≡ position_or_len (λ b. b == c) xs
run_is c xs = is_position_or_len (run c) (λ b. b == c) refl (λ b bs. ap (cond (b == c) 0) (omega arith)) xs

pub run_found : (c : ℕ) (xs : List ℕ) → unwrap_or (position (λ b. b == c) xs) (length xs) ≡ run c xs
run_found c xs = go (ltb n (length xs)) refl ∙ sym (run_is c xs)
  where
    n : ℕ
    n = position_or_len (λ b. b == c) xs

    go : (t : Bool) → ltb n (length xs) ≡ t → unwrap_or (cond t (Some n) None) (length xs) ≡ n
    go true e = refl
    go false e = omega (arith, ltb-false n (length xs) e, prefix_len-le-length (λ b. not (b == c)) xs)

-- the rest of a list, as `[first, rest @ ..]` has it
abbrev pub rest : List ℕ → List ℕ
rest xs = take (length xs - 1) (drop 1 xs)

pub after_some : (xs field more : List ℕ) → 0 < length xs → field ≡ take (run 44 (rest xs)) (rest xs) → more ≡ drop (run 44 (rest xs)) (rest xs)
    → after xs ≡ field ∷ after more
after_some [] field more h f m = absurd (omega arith)
after_some (b ∷ bs) field more h f m =
    let r : rest (b ∷ bs) ≡ bs = take_rest (b ∷ bs) 1 in
    split_is bs
    ∙ ap₂ (λ (x y : List ℕ). x ∷ after y)
    (sym (f ∙ ap (λ z. take (run 44 z) z) r))
    (sym (m ∙ ap (λ z. drop (run 44 z) z) r))

pub after_empty : (xs : List ℕ) → eqb (length xs) 0 ≡ eqb (length (after xs)) 0
after_empty [] = refl
after_empty (b ∷ bs) =
    ne_eqb (suc (length bs)) 0 (λ e. omega arith)
    ∙ sym (ap (λ (fs : List (List ℕ)). eqb (length fs) 0) (split_is bs) ∙ ne_eqb (suc (length (after (drop (run 44 bs) bs)))) 0 (λ e. omega arith))
