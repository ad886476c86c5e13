-- A table of numbers by first appearance.
use Rattle.std.proofs.Common.{◌≡◌, ℕ, zero, suc, ◌+◌, ◌<◌, ◌≤◌, Bool, true, false, cond, eqb, ltb, ◌⊎◌, List, [], ◌∷◌, ◌++◌, length, get_or, slice_index_or, set, replicate, Option, Some, None, is_some, sym, refl, ap, ◌∙◌, subst, inl, inr, ⊎_elim, arith}
use Rattle.std.proofs.lemmas.List.{length-append, get_or-set_same, get_or-set_other, length-set}
use Rattle.std.proofs.lemmas.Bool.{cond-true, cond-false, eq-eqb, ne_eqb, lt-ltb, le-ltb, cases_lt, cases_eq}
use Rattle.horn.specs.Answers.{place, note}
use Rattle.answers.specs.Numbering.{given, Numbered, Without, marked}

pub place_le : (v : ℕ) (us : List ℕ) → place eqb v us ≤ length us
place_le v [] = omega arith
place_le v (u ∷ us) = elim (eqb u v) as (λ t. cond t 0 (suc (place eqb v us)) ≤ suc (length us)) [ true ↦ omega arith | false ↦ omega (arith, place_le v us) ]

place_front : (v : ℕ) (us r : List ℕ) → place eqb v us < length us → place eqb v (us ++ r) ≡ place eqb v us
place_front v [] r h = absurd (omega arith)
place_front v (u ∷ us) r h = go (place_front v us r) (eqb u v) h
  where
    go : (place eqb v us < length us → place eqb v (us ++ r) ≡ place eqb v us) → (t : Bool) → cond t 0 (suc (place eqb v us)) < suc (length us) → cond t 0 (suc (place eqb v (us ++ r))) ≡ cond t 0 (suc (place eqb v us))
    go ih true k = refl
    go ih false k = ap suc (ih (omega arith))

place_past : (v w : ℕ) (us : List ℕ) → place eqb w us ≡ length us → (v ≡ w → ⊥) → place eqb w (us ++ v ∷ []) ≡ suc (length us)
place_past v w [] h ne = cond-false (eqb v w) _ _ (ne_eqb v w ne)
place_past v w (u ∷ us) h ne = go (λ k. place_past v w us k ne) (eqb u w) h
  where
    go : (place eqb w us ≡ length us → place eqb w (us ++ v ∷ []) ≡ suc (length us)) → (t : Bool) → cond t 0 (suc (place eqb w us)) ≡ suc (length us) → cond t 0 (suc (place eqb w (us ++ v ∷ []))) ≡ suc (suc (length us))
    go ih true k = absurd (omega arith)
    go ih false k = ap suc (ih (omega arith))

place_new : (v : ℕ) (us : List ℕ) → place eqb v us ≡ length us → place eqb v (us ++ v ∷ []) ≡ length us
place_new v [] h = cond-true (eqb v v) _ _ (eq-eqb v v refl)
place_new v (u ∷ us) h = go (place_new v us) (eqb u v) h
  where
    go : (place eqb v us ≡ length us → place eqb v (us ++ v ∷ []) ≡ length us) → (t : Bool) → cond t 0 (suc (place eqb v us)) ≡ suc (length us) → cond t 0 (suc (place eqb v (us ++ v ∷ []))) ≡ suc (length us)
    go ih true k = absurd (omega arith)
    go ih false k = ap suc (ih (omega arith))

note_new : (v : ℕ) (us : List ℕ) → place eqb v us ≡ length us → note eqb v us ≡ us ++ v ∷ []
note_new v [] h = refl
note_new v (u ∷ us) h = go (note_new v us) (eqb u v) h
  where
    go : (place eqb v us ≡ length us → note eqb v us ≡ us ++ v ∷ []) → (t : Bool) → cond t 0 (suc (place eqb v us)) ≡ suc (length us) → u ∷ cond t us (note eqb v us) ≡ u ∷ (us ++ v ∷ [])
    go ih true k = absurd (omega arith)
    go ih false k = ap (λ (z : List ℕ). u ∷ z) (ih (omega arith))

note_old : (v : ℕ) (us : List ℕ) → place eqb v us < length us → note eqb v us ≡ us
note_old v [] h = absurd (omega arith)
note_old v (u ∷ us) h = go (note_old v us) (eqb u v) h
  where
    go : (place eqb v us < length us → note eqb v us ≡ us) → (t : Bool) → cond t 0 (suc (place eqb v us)) < suc (length us) → u ∷ cond t us (note eqb v us) ≡ u ∷ us
    go ih true k = refl
    go ih false k = ap (λ (z : List ℕ). u ∷ z) (ih (omega arith))

given_old : (us : List ℕ) (v : ℕ) → place eqb v us < length us → given us v ≡ Some (suc (place eqb v us))
given_old us v h = cond-true (ltb (place eqb v us) (length us)) _ _ (lt-ltb (place eqb v us) (length us) h)

given_none : (us : List ℕ) (v : ℕ) → length us ≤ place eqb v us → given us v ≡ None
given_none us v h = cond-false (ltb (place eqb v us) (length us)) _ _ (le-ltb (place eqb v us) (length us) h)

module _ (v : ℕ) (us : List ℕ) (numbers : List (Option ℕ)) (seen : ℕ) (within : v < length numbers) (h : Numbered us numbers seen) where
  pub known : (n : ℕ) → get_or numbers v None ≡ Some n → Numbered (note eqb v us) numbers seen × (n ≡ suc (place eqb v us))
  known n some = go (cases_lt (place eqb v us) (length us))
    where
      go : (place eqb v us < length us) ⊎ (length us ≤ place eqb v us) → Numbered (note eqb v us) numbers seen × (n ≡ suc (place eqb v us))
      go (inl l) = (subst (λ ws. Numbered ws numbers seen) (sym (note_old v us l)) h, cc (h.each v within, given_old us v l))
      go (inr l) = absurd (cc (h.each v within, given_none us v l))

  fresh_place : get_or numbers v None ≡ None → place eqb v us ≡ length us
  fresh_place none = go (cases_lt (place eqb v us) (length us))
    where
      go : (place eqb v us < length us) ⊎ (length us ≤ place eqb v us) → place eqb v us ≡ length us
      go (inl l) = absurd (cc (h.each v within, given_old us v l))
      go (inr l) = omega (arith, place_le v us)

  given_other : place eqb v us ≡ length us → (w : ℕ) → (v ≡ w → ⊥) → given (us ++ v ∷ []) w ≡ given us w
  given_other p w ne = go (cases_lt (place eqb w us) (length us))
    where
      go : (place eqb w us < length us) ⊎ (length us ≤ place eqb w us) → given (us ++ v ∷ []) w ≡ given us w
      go (inl l) =
          let e = place_front w us (v ∷ []) l in
          given_old (us ++ v ∷ []) w (simp length-append (omega arith)) ∙ ap (λ k. Some (suc k)) e ∙ sym (given_old us w l)
      go (inr l) =
          let q : place eqb w us ≡ length us = omega (arith, place_le w us) in
          let e = place_past v w us q ne in
          given_none (us ++ v ∷ []) w (simp length-append (omega arith)) ∙ sym (given_none us w l)

  pub fresh : get_or numbers v None ≡ None → Numbered (note eqb v us) (set numbers v (Some (seen + 1))) (seen + 1) × (seen + 1 ≡ suc (place eqb v us))
  fresh none =
      let p = fresh_place none in
      let new = note_new v us p in
      let c = h.counted in
      let at : place eqb v (us ++ v ∷ []) ≡ length us = place_new v us p in
      let longer : length (us ++ v ∷ []) ≡ length us + 1 = length-append us (v ∷ []) in
      let number : suc (place eqb v (us ++ v ∷ [])) ≡ seen + 1 = omega arith in
      let next : Option ℕ = Some (seen + 1) in (
        subst (λ ws. Numbered ws (set numbers v next) (seen + 1)) (sym new)
            (record {
              counted = omega arith;
              each = λ w l. ⊎_elim
                  (λ (e : v ≡ w).
                  subst (λ x. get_or (set numbers v next) x None ≡ given (us ++ v ∷ []) x) e
                  (get_or-set_same numbers v next None within ∙ sym (given_old (us ++ v ∷ []) v (omega arith) ∙ ap Some number)))
                  (λ (ne : v ≡ w → ⊥).
                  get_or-set_other numbers v w next None (λ e. ne (sym e)) ∙ h.each w (subst (λ n. w < n) (length-set numbers v next) l) ∙ sym (given_other p w ne))
                  (cases_eq v w);
            }),
        omega arith,
      )

-- marks
pub marked_le : (xs : List (Option ℕ)) → marked xs ≤ length xs
marked_le [] = omega arith
marked_le (None ∷ xs) = omega (arith, marked_le xs)
marked_le (Some n ∷ xs) = omega (arith, marked_le xs)

pub marked_set : (xs : List (Option ℕ)) (v n : ℕ) → v < length xs → get_or xs v None ≡ None → marked (set xs v (Some n)) ≡ marked xs + 1
marked_set [] v n h z = absurd (omega arith)
marked_set (None ∷ xs) zero n h z = omega arith
marked_set (Some m ∷ xs) zero n h z = cc
marked_set (None ∷ xs) (suc v) n h z = marked_set xs v n (omega arith) z
marked_set (Some m ∷ xs) (suc v) n h z = omega (arith, marked_set xs v n (omega arith) z)

pub marked_take : (xs : List (Option ℕ)) (v : ℕ) → is_some (get_or xs v None) ≡ true → marked (set xs v None) + 1 ≡ marked xs
marked_take [] v z = absurd (cc)
marked_take (None ∷ xs) zero z = absurd (cc)
marked_take (Some m ∷ xs) zero z = omega arith
marked_take (None ∷ xs) (suc v) z = marked_take xs v z
marked_take (Some m ∷ xs) (suc v) z = omega (arith, marked_take xs v z)

-- a table with no numbers
pub marked_none : (xs : List (Option ℕ)) → ((v : ℕ) → v < length xs → get_or xs v None ≡ None) → marked xs ≡ 0
marked_none [] h = refl
marked_none (None ∷ xs) h = marked_none xs (λ v l. h (suc v) (omega arith))
marked_none (Some n ∷ xs) h = absurd (cc (h 0 (omega arith)))

pub numbered_none : (xs : List (Option ℕ)) → ((v : ℕ) → v < length xs → get_or xs v None ≡ None) → Numbered [] xs 0
numbered_none xs h = record { counted = refl; each = h }

-- the table as it is made
pub none_at : (n v : ℕ) → get_or {A = Option ℕ} (replicate n None) v None ≡ None
none_at zero v = refl
none_at (suc n) zero = refl
none_at (suc n) (suc v) = none_at n v

-- where no other cell had one
pub numbered_without : (n : ℕ) (xs ys : List (Option ℕ)) (seen : ℕ) → seen ≡ marked ys → Without n xs ys → ((v : ℕ) → n ≤ v → slice_index_or xs v None ≡ None) → Numbered [] ys seen
numbered_without n xs ys seen s h z =
    let none : (v : ℕ) → get_or ys v None ≡ None = λ v. ⊎_elim (λ (a : v < n). h.gone v a) (λ (b : n ≤ v). h.others v b ∙ z v b) (cases_lt v n) in
    record { counted = s ∙ marked_none ys (λ v l. none v); each = λ v l. none v }
