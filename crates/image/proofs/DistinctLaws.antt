-- Symbols that are apart have one number each.
use Rattle.std.proofs.Common.{◌≡◌, ℕ, zero, suc, ◌<◌, List, [], ◌∷◌, ◌++◌, length, IfOk, Ok, Err, Result, sym, inl, inr, arith}
use Rattle.std.proofs.lemmas.Bool.{cases_lt, cases_eq}
use Rattle.image.specs.declared.view.Image.{Image}
use Rattle.image.specs.declared.faults.ImageFault.{ImageFault}
use Rattle.symbol_table.specs.Symbols.{Symbol}
use Rattle.image.specs.Checked.{checked}
use Rattle.image.specs.Said.{said, parts_of}
use Rattle.image.specs.Images.{Absent, Apart}
use Rattle.symbol_table.specs.Symbols.{symbol_at}
use Rattle.image.specs.Programs.{Distinct}
use Rattle.image.proofs.CutLaws.{Fit}
use Rattle.image.proofs.ImageLaws.{accepted}

absent_both : (s : Symbol) (es : List Symbol) (t : Symbol) → Absent s (es ++ t ∷ []) → Absent s es × (s ≡ t → ⊥)
absent_both s [] t h = (tt, h.0)
absent_both s (e ∷ es) t h = let r = absent_both s es t h.1 in ((h.0, r.0), r.1)

record Later (es ss : List Symbol) (k : ℕ) : Type 0 where
  absent : Absent (symbol_at ss k) es
  later : (i : ℕ) → i < k → symbol_at ss k ≡ symbol_at ss i → ⊥

apart_at : (es ss : List Symbol) → Apart es ss → (k : ℕ) → k < length ss → Later es ss k
apart_at es [] h k l = absurd (omega arith)
apart_at es (s ∷ ss) h zero l = record { absent = h.0; later = λ i u. absurd (omega arith) }
apart_at es (s ∷ ss) h (suc k) l =
    let r = apart_at (es ++ s ∷ []) ss h.1 k (omega arith) in
    let b = absent_both (symbol_at ss k) es s r.absent in
    record { absent = b.0; later = before b.1 r.later }
  where
    before : (symbol_at ss k ≡ s → ⊥) → ((i : ℕ) → i < k → symbol_at ss k ≡ symbol_at ss i → ⊥) → (i : ℕ) → i < suc k → symbol_at ss k ≡ symbol_at (s ∷ ss) i → ⊥
    before f g zero u e = f e
    before f g (suc i) u e = g i (omega arith) e

distinct : (ss : List Symbol) → Apart [] ss → Distinct ss
distinct ss h i j li lj e =
    elim (cases_eq i j) [
      | inl q ↦ q
      | inr ne ↦ elim (cases_lt i j) [
        | inl l ↦ absurd ((apart_at [] ss h j lj).later i l (sym e))
        | inr g ↦ let l : j < i = omega arith in absurd ((apart_at [] ss h i li).later j l e)
      ]
    ]

pub symbols_distinct : (r : Result Image ImageFault) (ws : List ℕ) → Fit ws → said r ≡ checked ws → IfOk r (λ i. Distinct (parts_of i).symbols)
symbols_distinct (Ok i) ws fit e = distinct (parts_of i).symbols (accepted ws (parts_of i) fit (sym e)).proper.apart
symbols_distinct (Err e) ws fit h = tt
