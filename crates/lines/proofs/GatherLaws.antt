-- The beginning of a line that grows by a byte, and how much of it tells what it is read as.
use Rattle.std.proofs.Common.{◌≡◌, ℕ, ◌+◌, ◌<◌, ◌≤◌, Bool, true, false, eqb, ltb, leb, List, [], ◌∷◌, ◌++◌, length, take, set, Ok, Err, sym, refl, ap, ◌∙◌, arith}
use Rattle.std.proofs.lemmas.List.{take_all, take_at, take_more_set, length_push, length-take-le}
use Rattle.std.proofs.lemmas.Bool.{cond-true, or_right, lt-ltb, leb-true, leb-false}
use Rattle.lines.specs.declared.kind.Kind.{Kind}
use Rattle.lines.specs.declared.kind.Kind.TheVariants.{Clause as ClauseLine, Query as QueryLine}
use Rattle.lines.specs.declared.faults.LineFault.TheVariants.{Length}
use Rattle.horn.specs.Clauses.{aparts}
use Rattle.lines.specs.Limits.{line_limit}
use Rattle.lines.specs.Lines.{then, read}
use Rattle.lines.specs.Clauses.{clause_from, EnoughRead}

module _ (limit b : ℕ) (xs : List ℕ) (n : ℕ) where
  pub kept_more : n < length xs → n < limit → take (n + 1) (set xs n b) ≡ take limit (take n xs ++ b ∷ [])
  kept_more h k =
      take_more_set xs n b h
      ∙ sym (take_all limit (take n xs ++ b ∷ []) (omega (arith, length_push (take n xs) b, length-take-le n xs (omega arith))))

  pub kept_full : n ≤ length xs → n ≡ limit → take n xs ≡ take limit (take n xs ++ b ∷ [])
  kept_full h e = sym (take_at (take n xs) (b ∷ []) limit (length-take-le n xs h ∙ e))

-- a line over the limit is refused whatever it holds
read_long : (k : Kind) (line : List ℕ) → line_limit < length line → read k line ≡ Err Length
read_long k line h = cond-true _ _ _ (or_right (eqb (length line) 0) (ltb line_limit (length line)) (lt-ltb line_limit (length line) h))

read_enough : (k : Kind) (n : ℕ) (line : List ℕ) → line_limit < n → read k (take n line) ≡ read k line
read_enough k n line h = go (leb (length line) n) refl
  where
    go : (t : Bool) → leb (length line) n ≡ t → read k (take n line) ≡ read k line
    go true e = ap (read k) (take_all n line (leb-true (length line) n e))
    go false e =
        let long = leb-false (length line) n e in
        read_long k (take n line) (omega (arith, length-take-le n line (omega arith))) ∙ sym (read_long k line (omega arith))

pub enough_read : (n : ℕ) → line_limit < n → EnoughRead n
enough_read n h line =
    (ap (λ r. then (λ e. e) r clause_from) (read_enough ClauseLine n line h), ap (λ r. then (λ e. e) r (λ ts. Ok (aparts 0 ts))) (read_enough QueryLine n line h))
