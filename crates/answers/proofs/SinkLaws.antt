-- A text that is counted, and then written.
use Rattle.std.proofs.Common.{◌≡◌, ℕ, ◌-◌, ◌<◌, ◌≤◌, Bool, true, false, List, [], length, sym, refl, ap, ◌∙◌, subst, ap₂, arith}
use Rattle.text.specs.Buffers.{wrote}
use Rattle.text.proofs.Wrote.{wrote_none}
use Rattle.answers.specs.declared.buffer.Count.{Count}
use Rattle.answers.specs.declared.buffer.Write.{Write}
use Rattle.answers.specs.Sinks.{Counted, Wrote}
use Rattle.answers.specs.Takes.{Took, Puts}
use Rattle.answers.proofs.TakeLaws.{took_all, took_true}

module _ (text o q : List ℕ) (r : Bool) where
  -- from nothing, bytes are counted up to the limit, and the buffer is left alone
  module _ (s t : Count) (start : s.len ≡ 0) (p : Puts Count (λ s o. s.limit - s.len) (λ s o t q bs. Counted s o t q bs) r s o t q text) where
    counted : Took r (s.limit - s.len) (Counted s o t q) text
    counted = p.after s o [] (record { limit = refl; len = omega arith; fits = omega arith; same = refl })

    pub count_refused : r ≡ false → (s.limit < length text) × (q ≡ o)
    count_refused e = let w : Took false (s.limit - s.len) (Counted s o t q) text = subst (λ b. Took b (s.limit - s.len) (Counted s o t q) text) e counted in (omega (arith, w.0), w.1.1.same)

    pub count_taken : r ≡ true → (length text ≤ s.limit) × (q ≡ o)
    count_taken e = let w : Counted s o t q text = subst (λ b. Took b (s.limit - s.len) (Counted s o t q) text) e counted in (omega (arith, w.fits), w.same)

  -- the buffer that was counted for has room
  module _ (s t : Write) (buffer : List ℕ) (start : s.len ≡ 0) (same : o ≡ buffer) (fits : length text ≤ length buffer)
      (p : Puts Write (λ s o. length o - s.len) (λ s o t q bs. Wrote s o t q bs) r s o t q text) where
    all : Took r (length o - s.len) (Wrote s o t q) text
    all = p.after s o [] (record { size = refl; len = omega arith; fits = omega arith; after = sym (wrote_none o s.len) })

    pub write_taken : r ≡ true
    write_taken = took_true r (length o - s.len) (Wrote s o t q) text (omega (arith, ap length same)) all

    pub write_all : (t.len ≡ length text) × (q ≡ wrote buffer 0 text)
    write_all =
        let w : Wrote s o t q text = took_all r (length o - s.len) (Wrote s o t q) text (omega (arith, ap length same)) all in
        (omega (arith, w.len), w.after ∙ ap₂ (λ b k. wrote b k text) same start)
