-- Commas part the fields of a line, and no two lines have the same fields.
use Rattle.std.proofs.Common.{◌≡◌, ℕ, suc, Bool, true, false, cond, eqb, List, [], ◌∷◌, ◌++◌, take, drop, sym, refl, ap, ◌∙◌, ap₂}
use Rattle.std.proofs.lemmas.Bool.{cond-false, eqb-true}
use Rattle.lines.specs.Words.{run}
use Rattle.lines.specs.Fields.{onto, split, after}
use Rattle.horn.specs.Notation.{tails, joined}
use Rattle.lines.proofs.WordLaws.{Free}

abbrev pub Frees : List (List ℕ) → Type 0
Frees [] = Unit {0}
Frees (f ∷ fs) = Free 44 f × Frees fs

-- a line's first field, and what follows
pub split_is : (line : List ℕ) → split line ≡ take (run 44 line) line ∷ after (drop (run 44 line) line)
split_is [] = refl
split_is (b ∷ bs) = go (split_is bs) (eqb b 44)
  where
    go : split bs ≡ take (run 44 bs) bs ∷ after (drop (run 44 bs) bs) → (t : Bool) → cond t ([] ∷ split bs) (onto b (split bs)) ≡ take (cond t 0 (suc (run 44 bs))) (b ∷ bs) ∷ after (drop (cond t 0 (suc (run 44 bs))) (b ∷ bs))
    go ih true = refl
    go ih false = ap (onto b) ih

split_front : (f g : List ℕ) (fs : List (List ℕ)) → Free 44 f → split g ≡ [] ∷ fs → split (f ++ g) ≡ f ∷ fs
split_front [] g fs h e = e
split_front (b ∷ f) g fs h e = cond-false (eqb b 44) _ _ h.0 ∙ ap (onto b) (split_front f g fs h.1 e)

split_tails : (fs : List (List ℕ)) → Frees fs → split (tails fs) ≡ [] ∷ fs
split_tails [] h = refl
split_tails (f ∷ fs) h = ap (λ z. [] ∷ z) (split_front f (tails fs) fs h.0 (split_tails fs h.1))

-- what is joined is split again
pub split_joined : (f : List ℕ) (fs : List (List ℕ)) → Free 44 f → Frees fs → split (joined (f ∷ fs)) ≡ f ∷ fs
split_joined f fs h k = split_front f (tails fs) fs h (split_tails fs k)

joined_onto : (b : ℕ) (fs : List (List ℕ)) → joined (onto b fs) ≡ b ∷ joined fs
joined_onto b [] = refl
joined_onto b (f ∷ fs) = refl

pub joined_split : (line : List ℕ) → joined (split line) ≡ line
joined_split [] = refl
joined_split (b ∷ bs) = go (joined_split bs) (eqb b 44) refl
  where
    go : joined (split bs) ≡ bs → (t : Bool) → eqb b 44 ≡ t → joined (cond t ([] ∷ split bs) (onto b (split bs))) ≡ b ∷ bs
    go ih true e =
        ap tails (split_is bs) ∙ ap₂ (λ (x : ℕ) (y : List ℕ). x ∷ y) (sym (eqb-true b 44 e)) (ap joined (sym (split_is bs)) ∙ ih)
    go ih false e = joined_onto b (split bs) ∙ ap (λ (y : List ℕ). b ∷ y) ih
