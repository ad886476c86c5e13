-- The line of a refusal, which always fits.
use Rattle.std.proofs.Common.{◌≡◌, ℕ, ◌^◌, ◌<◌, ◌≤◌, leb, List, length, Some, None, Ok, Err, decimal, ap, arith}
use Rattle.std.proofs.lemmas.List.{length-append}
use Rattle.std.proofs.lemmas.Bool.{cond-true, le-leb}
use Rattle.std.proofs.lemmas.Fmt.{length-decimal-le}
use Rattle.lines.specs.declared.faults.CallFault.{CallFault}
use Rattle.lines.specs.declared.refusals.Refusal.{Refusal}
use Rattle.lines.specs.Refusals.{refusal_line, or_buffer, written}

-- a refusal's line is short
pub refusal_short : (r : Refusal) → r.number < 2 ^ 64 → r.layer < 2 ^ 64 → r.place < 2 ^ 64 → r.rule < 2 ^ 64 → length (refusal_line r) ≤ 85
refusal_short r a b c d =
    let most : (n : ℕ) → n < 2 ^ 64 → length (decimal n) ≤ 20 = λ n h. length-decimal-le 20 n (omega arith) (omega arith) h in
    simp length-append (omega (arith, most r.number a, most r.layer b, most r.place c, most r.rule d))

-- a line that fits is written
module _ (line buffer : List ℕ) (fits : length line ≤ length buffer) where
  written_is : written line buffer ≡ Ok (length line)
  written_is = ap or_buffer (cond-true (leb (length line) (length buffer)) (Some (length line)) None (le-leb (length line) (length buffer) fits))

  pub never_refused : (e : CallFault) → Err e ≡ written line buffer → ⊥
  never_refused e h = let w = written_is in let z : ◌≡◌ {A = ℕ} 0 1 = cc in omega arith
