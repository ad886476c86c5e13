-- Bytes put one after another.
use Rattle.std.proofs.Common.{◌≡◌, ℕ, ◌+◌, ◌≤◌, Bool, true, false, List, [], ◌++◌, length, Result, Ok, Err, IsErr, is_ok, MatchBool, sym, refl, ap, ◌∙◌, subst, arith}
use Rattle.std.proofs.lemmas.List.{append_assoc, append-nil, length-append}
use Rattle.answers.specs.Takes.{Took, Puts}

module _ {S : Type 0} {room : S → List ℕ → ℕ} {holds : S → List ℕ → S → List ℕ → List ℕ → Type 0} where
  -- no bytes
  pub puts_none : (t : S) (q : List ℕ) → Puts S room holds true t q t q []
  puts_none t q = record { after = λ s o bs h. subst (holds s o t q) (sym (append-nil bs)) h }

  -- bytes that were refused, with more after them
  pub puts_stop : {r : Bool} {t t' : S} {q q' xs all : List ℕ} (ys : List ℕ) → all ≡ xs ++ ys → r ≡ false
      → Puts S room holds false t q t' q' xs → Puts S room holds r t q t' q' all
  puts_stop {t = t} {t' = t'} {q = q} {q' = q'} {xs = xs} {all = all} ys e f p = subst (λ b. Puts S room holds b t q t' q' all) (sym f) (record {
    after = λ s o bs h.
        let w : Took false (room s o) (holds s o t' q') (bs ++ xs) = p.after s o bs h in
        (omega (arith, w.0, ap length e, length-append xs ys, length-append bs xs, length-append bs all), w.1);
  })

  -- bytes that were taken, and what becomes of those after them
  pub puts_then : {r : Bool} {t t' t'' : S} {q q' q'' xs all : List ℕ} (ys : List ℕ) → all ≡ xs ++ ys
      → Puts S room holds true t q t' q' xs → Puts S room holds r t' q' t'' q'' ys → Puts S room holds r t q t'' q'' all
  puts_then {r = r} {t'' = t''} {q'' = q''} {xs = xs} ys e p n = record {
    after = λ s o bs h.
        subst (Took r (room s o) (holds s o t'' q'')) (append_assoc bs xs ys ∙ ap (λ z. bs ++ z) (sym e)) (n.after s o (bs ++ xs) (p.after s o bs h));
  }

  -- the same bytes
  pub puts_same : {r : Bool} {t t' : S} {q q' xs ys : List ℕ} → xs ≡ ys → Puts S room holds r t q t' q' xs → Puts S room holds r t q t' q' ys
  puts_same {r = r} {t = t} {t' = t'} {q = q} {q' = q'} e p = subst (Puts S room holds r t q t' q') e p

  -- bytes that were taken lessen the room
  pub puts_less : ((s : S) (o : List ℕ) → holds s o s o []) → ((s t : S) (o q bs : List ℕ) → holds s o t q bs → room t q + length bs ≡ room s o)
      → {t t' : S} {q q' xs : List ℕ} → Puts S room holds true t q t' q' xs → room t' q' + length xs ≡ room t q
  puts_less none less {t = t} {t' = t'} {q = q} {q' = q'} {xs = xs} p = less t t' q q' xs (p.after t q [] (none t q))

-- an error is refused
pub refused : {T E : Type 0} (r : Result T E) → IsErr r → is_ok r ≡ false
refused (Ok x) h = sym h
refused (Err e) h = refl

pub nothing : (r : Bool) (X : Type 0) → r ≡ false → MatchBool r X (Unit {0})
nothing true X h = absurd (cc)
nothing false X h = tt

-- where there is room, all is held
pub took_all : (r : Bool) (room : ℕ) (Holding : List ℕ → Type 0) (bytes : List ℕ) → length bytes ≤ room → Took r room Holding bytes → Holding bytes
took_all true room Holding bytes le w = w
took_all false room Holding bytes le w = absurd (omega (arith, w.0))

pub took_true : (r : Bool) (room : ℕ) (Holding : List ℕ → Type 0) (bytes : List ℕ) → length bytes ≤ room → Took r room Holding bytes → r ≡ true
took_true true room Holding bytes le w = refl
took_true false room Holding bytes le w = absurd (omega (arith, w.0))
