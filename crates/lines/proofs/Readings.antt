-- An accepted line has one reading.
use Rattle.std.proofs.Common.{◌≡◌, ℕ, ◌+◌, ◌-◌, ◌<◌, ◌≤◌, Bool, true, false, cond, ◌&&◌, ◌||◌, eqb, ltb, leb, List, [], ◌∷◌, map, length, take, drop, Some, None, Ok, Err, Option, Result, sym, refl, ap, ◌∙◌, subst, ap₂, arith}
use Rattle.std.proofs.lemmas.Bool.{cond-true, cond-false, ltb-false, leb-true, le-leb, le-ltb, eqb-true, ne_eqb, or_parts, or_from, and_parts, and_from}
use Rattle.lines.specs.declared.kind.Kind.{Kind}
use Rattle.lines.specs.declared.kind.Kind.TheVariants.{Clause, Query}
use Rattle.lines.specs.declared.faults.LineFault.{LineFault}
use Rattle.lines.specs.declared.faults.LineFault.TheVariants.{Length, Header, Missing}
use Rattle.horn.specs.Terms.{Term, var, node, nil, cons, count, Name}
use Rattle.lines.specs.Words.{run}
use Rattle.horn.specs.Notation.{Word, variable, field, joined, word_for, words, wordss}
use Rattle.lines.specs.Fields.{split, after}
use Rattle.horn.specs.Clauses.{Written}
use Rattle.lines.specs.Lines.{then, ok_or, check, build, begins, goals_of, body, whole, read}
use Rattle.lines.specs.Kinds.{mark, least, heads}
use Rattle.lines.specs.Grammar.{spell, Good, Goods, Proper, Reading}
use Rattle.horn.specs.Weights.{load}
use Rattle.lines.proofs.WordLaws.{Free, word_commas}
use Rattle.lines.proofs.FieldLaws.{Frees, split_joined, joined_split, split_is}
use Rattle.lines.proofs.Spelt.{goals_step, built}
use Rattle.lines.proofs.Accepts.{Accepted, accepted}

-- no comma within
mutual
  pub frees_term : (t : Term Name) (ws : List Word) → Good t → Frees (map field ws) → Frees (map field (words t ws))
  frees_term (var v) ws h r = (word_commas (variable v) h, r)
  frees_term (node f ts) ws h r = (word_commas (word_for f (count ts)) h.0, frees_terms ts ws h.1 r)

  pub frees_terms : (ts : Written) (ws : List Word) → Goods ts → Frees (map field ws) → Frees (map field (wordss ts ws))
  frees_terms nil ws h r = r
  frees_terms (cons t ts) ws h r = frees_term t (wordss ts ws) h.0 (frees_terms ts ws h.1 r)

mark_free : (k : Kind) → Free 44 (mark k ∷ [])
mark_free Clause = (refl, tt)
mark_free Query = (refl, tt)

begins_mark : (k : Kind) → begins k (mark k ∷ []) ≡ true
begins_mark Clause = refl
begins_mark Query = refl

goals_digit : (k : Kind) (d : ℕ) → least k ≤ d → d ≤ 8 → goals_of k ((48 + d) ∷ []) ≡ Some d
goals_digit k d lo hi =
    cond-true (leb (48 + least k) (48 + d) && leb (48 + d) 56) _ _ (and_from (leb (48 + least k) (48 + d)) (leb (48 + d) 56) (le-leb _ _ (omega arith)) (le-leb _ _ (omega arith)))
    ∙ ap Some (omega arith)

body_ok : (k : Kind) (f : Name) (fs : List (List ℕ)) (d w : ℕ) → goals_of k f ≡ Some d → check (heads k + d) 0 (least k) 0 3 fs ≡ Ok w → body k (f ∷ fs) ≡ Ok (build fs)
body_ok k f fs d w e c =
    ap (λ o. then (λ x. x) (ok_or (Header 2) o) (λ d. then (λ x. x) (check (heads k + d) 0 (least k) 0 3 fs) (λ w. Ok (build fs)))) e
    ∙ ap (λ r. then (λ x. x) r (λ w. Ok (build fs))) c

pub read_spell : (k : Kind) (ts : Written) → Proper k ts → read k (spell k ts) ≡ Ok ts
read_spell k ts h =
    let d = count ts - heads k in
    let fs = map field (wordss ts []) in
    let line = spell k ts in
    let within : (eqb (length line) 0 || ltb 512 (length line)) ≡ false = or_from (eqb (length line) 0) (ltb 512 (length line)) (ne_eqb (length line) 0 (λ e. omega arith)) (le-ltb 512 (length line) h.short) in
    let parts : split line ≡ (mark k ∷ []) ∷ ((48 + d) ∷ []) ∷ fs = split_joined (mark k ∷ []) (((48 + d) ∷ []) ∷ fs) (mark_free k) ((ne_eqb (48 + d) 44 (λ e. omega arith), tt), frees_terms ts [] h.good tt) in
    let back : heads k + d ≡ count ts = omega (arith, h.some) in
    let digit : goals_of k ((48 + d) ∷ []) ≡ Some d = goals_digit k d (omega (arith, h.some)) (omega (arith, h.few)) in
    let checks : check (heads k + d) 0 (least k) 0 3 fs ≡ Ok (0 + load (least k) ts) = ap (λ g. check g 0 (least k) 0 3 fs) back ∙ goals_step ts (least k) 0 3 h.good h.callable (omega (arith, h.light)) in
    cond-false (eqb (length line) 0 || ltb 512 (length line)) _ _ within
    ∙ ap (whole k) parts
    ∙ cond-true (begins k (mark k ∷ [])) _ _ (begins_mark k)
    ∙ body_ok k ((48 + d) ∷ []) fs d _ digit checks
    ∙ ap Ok (built ts h.good)

-- no two clauses are spelt alike
pub one_reading_lem : (k : Kind) (ts us : Written) → Proper k ts → Proper k us → spell k ts ≡ spell k us → ts ≡ us
one_reading_lem k ts us h i e =
    let p : ◌≡◌ {A = Result Written LineFault} (Ok ts) (Ok us) = sym (read_spell k ts h) ∙ ap (read k) e ∙ read_spell k us i in cc

-- the other way
never : {A : Type 0} (e : LineFault) (ts : Written) → Err e ≡ Ok ts → A
never e ts h = let z : ◌≡◌ {A = ℕ} 0 1 = cc in absurd (omega arith)

begins_is : (k : Kind) (f : Name) → begins k f ≡ true → f ≡ mark k ∷ []
begins_is k [] e = let z : ◌≡◌ {A = ℕ} 0 1 = cc in absurd (omega arith)
begins_is k (b ∷ []) e = ap (λ x. x ∷ []) (eqb-true b (mark k) e)
begins_is k (b ∷ c ∷ bs) e = let z : ◌≡◌ {A = ℕ} 0 1 = cc in absurd (omega arith)

abbrev Digit : Kind → Name → ℕ → Type 0
Digit k f d = (f ≡ (48 + d) ∷ []) × ((least k ≤ d) × (d ≤ 8))

digit_is : (k : Kind) (f : Name) (d : ℕ) → goals_of k f ≡ Some d → Digit k f d
digit_is k [] d e = let z : ◌≡◌ {A = ℕ} 0 1 = cc in absurd (omega arith)
digit_is k (b ∷ []) d e = go (leb (48 + least k) b && leb b 56) refl e
  where
    go : (t : Bool) → (leb (48 + least k) b && leb b 56) ≡ t → cond t (Some (b - 48)) None ≡ Some d → Digit k (b ∷ []) d
    go true q e =
        let p = and_parts (leb (48 + least k) b) (leb b 56) q in
        let lo = leb-true (48 + least k) b p.0 in
        let hi = leb-true b 56 p.1 in
        let is : b - 48 ≡ d = cc in
        (ap (λ x. x ∷ []) (omega arith), (omega arith, omega arith))
    go false q e = let z : ◌≡◌ {A = ℕ} 0 1 = cc in absurd (omega arith)
digit_is k (b ∷ c ∷ bs) d e = let z : ◌≡◌ {A = ℕ} 0 1 = cc in absurd (omega arith)

module _ (k : Kind) (line : List ℕ) (ts : Written) (size : length line ≤ 512) where
  finish : (f : Name) (fs : List (List ℕ)) (d w : ℕ) → split line ≡ (mark k ∷ []) ∷ f ∷ fs → Digit k f d → check (heads k + d) 0 (least k) 0 3 fs ≡ Ok w → build fs ≡ ts → Reading k line ts
  finish f fs d w parts digit checks is =
      let a : Accepted (heads k + d) 0 (least k) 0 w fs ts = subst (Accepted (heads k + d) 0 (least k) 0 w fs) is (accepted fs (heads k + d) 0 (least k) 0 3 w (omega arith) checks) in
      let counted : count ts ≡ heads k + d = omega (arith, a.counted) in
      let same : 48 + (count ts - heads k) ≡ 48 + d = omega arith in
      let spelt : spell k ts ≡ line =
      ap₂ (λ (x : ℕ) (xs : List (List ℕ)). joined ((mark k ∷ []) ∷ (x ∷ []) ∷ xs)) same a.spelt
      ∙ ap (λ (g : List ℕ). joined ((mark k ∷ []) ∷ g ∷ fs)) (sym digit.0)
      ∙ ap joined (sym parts) ∙ joined_split line in
      record {
        proper = record {
          good = a.good;
          callable = a.callable;
          some = omega (arith, digit.1.0);
          few = omega (arith, digit.1.1);
          light = omega (arith, a.weight, a.light);
          short = subst (λ l. length l ≤ 512) (sym spelt) size;
        };
        spelling = spelt;
      }

  checked : (f : Name) (fs : List (List ℕ)) (d : ℕ) → split line ≡ (mark k ∷ []) ∷ f ∷ fs → Digit k f d → (r : Result ℕ LineFault) → check (heads k + d) 0 (least k) 0 3 fs ≡ r → then (λ x. x) r (λ w. Ok (build fs)) ≡ Ok ts → Reading k line ts
  checked f fs d parts digit (Ok w) c e = let is : build fs ≡ ts = cc in finish f fs d w parts digit c is
  checked f fs d parts digit (Err x) c e = never x ts e

  numbered : (f : Name) (fs : List (List ℕ)) → split line ≡ (mark k ∷ []) ∷ f ∷ fs → (o : Option ℕ) → goals_of k f ≡ o
      → then (λ x. x) (ok_or (Header 2) o) (λ d. then (λ x. x) (check (heads k + d) 0 (least k) 0 3 fs) (λ w. Ok (build fs))) ≡ Ok ts → Reading k line ts
  numbered f fs parts (Some d) q e = checked f fs d parts (digit_is k f d q) (check (heads k + d) 0 (least k) 0 3 fs) refl e
  numbered f fs parts None q e = never (Header 2) ts e

  bodied : (fs : List (List ℕ)) → split line ≡ (mark k ∷ []) ∷ fs → body k fs ≡ Ok ts → Reading k line ts
  bodied [] parts e = never (Missing 2) ts e
  bodied (f ∷ fs) parts e = numbered f fs parts (goals_of k f) refl e

  begun : (f : Name) (fs : List (List ℕ)) → split line ≡ f ∷ fs → (t : Bool) → begins k f ≡ t → cond t (body k fs) (Err (Header 1)) ≡ Ok ts → Reading k line ts
  begun f fs parts true q e = bodied fs (parts ∙ ap (λ (x : List ℕ). x ∷ fs) (begins_is k f q)) e
  begun f fs parts false q e = never (Header 1) ts e

  split_read : (fs : List (List ℕ)) → split line ≡ fs → whole k fs ≡ Ok ts → Reading k line ts
  split_read [] parts e = never Length ts e
  split_read (f ∷ fs) parts e = begun f fs parts (begins k f) refl e

pub reading : (k : Kind) (line : List ℕ) (ts : Written) → read k line ≡ Ok ts → Reading k line ts
reading k line ts = go (eqb (length line) 0 || ltb 512 (length line)) refl
  where
    go : (t : Bool) → (eqb (length line) 0 || ltb 512 (length line)) ≡ t → cond t (Err Length) (whole k (split line)) ≡ Ok ts → Reading k line ts
    go true q e = never Length ts e
    go false q e = split_read k line ts (ltb-false 512 (length line) (or_parts (eqb (length line) 0) (ltb 512 (length line)) q).1) (split line) refl e

pub read_of : (k : Kind) (line : List ℕ) (ts : Written) → Reading k line ts → read k line ≡ Ok ts
read_of k line ts h = subst (λ l. read k l ≡ Ok ts) h.spelling (read_spell k ts h.proper)

-- the reader's exits
read_at : (k : Kind) (line : List ℕ) → 0 < length line → length line ≤ 512 → read k line ≡ cond (begins k (take (run 44 line) line)) (body k (after (drop (run 44 line) line))) (Err (Header 1))
read_at k line lo hi =
    cond-false (eqb (length line) 0 || ltb 512 (length line)) _ _ (or_from (eqb (length line) 0) (ltb 512 (length line)) (ne_eqb (length line) 0 (λ e. omega arith)) (le-ltb 512 (length line) hi))
    ∙ ap (whole k) (split_is line)

module _ (k : Kind) (line front back : List ℕ) (lo : 0 < length line) (hi : length line ≤ 512) (f : front ≡ take (run 44 line) line) (b : back ≡ drop (run 44 line) line) where
  pub read_first : begins k front ≡ false → read k line ≡ Err (Header 1)
  read_first e = read_at k line lo hi ∙ cond-false _ _ _ (ap (begins k) (sym f) ∙ e)

  pub read_body : begins k front ≡ true → read k line ≡ body k (after back)
  read_body e = read_at k line lo hi ∙ cond-true _ _ _ (ap (begins k) (sym f) ∙ e) ∙ ap (λ x. body k (after x)) (sym b)

module _ (k : Kind) (fs : List (List ℕ)) (f : Name) (gs : List (List ℕ)) (parts : fs ≡ f ∷ gs) where
  pub body_wrong : goals_of k f ≡ None → body k fs ≡ Err (Header 2)
  body_wrong e = ap (body k) parts ∙ ap (λ o. then (λ x. x) (ok_or (Header 2) o) (λ d. then (λ x. x) (check (heads k + d) 0 (least k) 0 3 gs) (λ w. Ok (build gs)))) e

  pub body_goals : (d : ℕ) (r : Result ℕ LineFault) → goals_of k f ≡ Some d → check (heads k + d) 0 (least k) 0 3 gs ≡ r → body k fs ≡ then (λ x. x) r (λ w. Ok (build gs))
  body_goals d r e c =
      ap (body k) parts
      ∙ ap (λ o. then (λ x. x) (ok_or (Header 2) o) (λ d. then (λ x. x) (check (heads k + d) 0 (least k) 0 3 gs) (λ w. Ok (build gs)))) e
      ∙ ap (λ r. then (λ x. x) r (λ w. Ok (build gs))) c
