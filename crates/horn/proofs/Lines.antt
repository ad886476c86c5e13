-- A path's answer has one line: most general solutions differ by the names of variables, and the line numbers these anew.
use Rattle.std.proofs.Common.{◌≡◌, ℕ, suc, Bool, true, false, cond, eqb, List, [], ◌∷◌, map, length, decimal, sym, refl, ap, ◌∙◌, subst, ap₂, inl, inr, arith}
use Rattle.std.specs.List.{AllByRecursion}
use Rattle.std.proofs.ByRecursion.{All-weaker}
use Rattle.std.proofs.lemmas.Bool.{eq-eqb, ne_eqb, eqb-true}
use Rattle.horn.specs.Terms.{Name, Term, Terms, var, node, nil, cons, eval, evals}
use Rattle.horn.specs.Clauses.{Variable, named, blank, Query}
use Rattle.horn.specs.Notation.{field, wordss, joined}
use Rattle.horn.specs.Equations.{same_name}
use Rattle.horn.specs.Answers.{Values, Occurs, OccursIn, note, place, through, throughs, note_name, names_of, values_of, unbound, label_in, label, shown, line_of}
use Rattle.horn.specs.Theorems.{OneLine}
use Rattle.horn.proofs.TermLaws.{eval_eval, eval_on}

-- what each variable keeps, all keep
module _ {V A : Type 0} (f : V → A → A) (I : A → Type 0) where
  mutual
    through_keeps : (t : Term V) → ((v : V) → Occurs v t → (a : A) → I a → I (f v a)) → (a : A) → I a → I (through f t a)
    through_keeps (var v) h a i = h v refl a i
    through_keeps (node g ts) h a i = throughs_keeps ts h a i

    pub throughs_keeps : (ts : Terms V) → ((v : V) → OccursIn v ts → (a : A) → I a → I (f v a)) → (a : A) → I a → I (throughs f ts a)
    throughs_keeps nil h a i = i
    throughs_keeps (cons t ts) h a i = throughs_keeps ts (λ v o. h v (inr o)) (through f t a) (through_keeps t (λ v o. h v (inl o)) a i)

all_note : {A : Type 0} (P : A → Type 0) (same : A → A → Bool) (x : A) (xs : List A) → P x → AllByRecursion P xs → AllByRecursion P (note same x xs)
all_note P same x [] p h = (p, tt)
all_note P same x (y ∷ ys) p h = (h.0, go (all_note P same x ys p h.1) (same y x))
  where
    go : AllByRecursion P (note same x ys) → (b : Bool) → AllByRecursion P (cond b ys (note same x ys))
    go ih true = h.1
    go ih false = ih

-- the names are those of variables
pub names_occur : (q : Query) → AllByRecursion (λ v. OccursIn (named v) q) (names_of q)
names_occur q = throughs_keeps note_name (AllByRecursion (λ v. OccursIn (named v) q)) q step [] tt
  where
    step : (v : Variable) → OccursIn v q → (vs : List Name) → AllByRecursion (λ v. OccursIn (named v) q) vs → AllByRecursion (λ v. OccursIn (named v) q) (note_name v vs)
    step (named v) o vs h = all_note (λ v. OccursIn (named v) q) same_name v vs o h
    step (blank n) o vs h = h

abbrev index : Term ℕ → ℕ
index (var y) = y
index (node f ts) = 0

-- terms that ρ and then ρ' leave as they were
module _ (ρ ρ' : ℕ → Term ℕ) where
  abbrev r : ℕ → ℕ
  r x = index (ρ x)

  -- ρ names x anew, and ρ' takes it back
  abbrev Renamed : ℕ → Type 0
  Renamed x = (ρ x ≡ var (r x)) × (ρ' (r x) ≡ var x)

  renamed_var : (x : ℕ) → eval (ρ x) ρ' ≡ var x → Renamed x
  renamed_var x e = go (ρ x) refl e
    where
      go : (t : Term ℕ) → ρ x ≡ t → eval t ρ' ≡ var x → Renamed x
      go (var y) k e = let i : r x ≡ y = ap index k in (k ∙ ap var (sym i), ap ρ' i ∙ e)
      go (node f ts) k e = let z : ◌≡◌ {A = ℕ} 0 1 = cc in absurd (omega arith)

  mutual
    renamed_in : (t : Term ℕ) → eval (eval t ρ) ρ' ≡ t → (x : ℕ) → Occurs x t → Renamed x
    renamed_in (var y) e x o = subst Renamed (sym o) (renamed_var y e)
    renamed_in (node f ts) e x o = let k : evals (evals ts ρ) ρ' ≡ ts = cc in renameds_in ts k x o

    renameds_in : (ts : Terms ℕ) → evals (evals ts ρ) ρ' ≡ ts → (x : ℕ) → OccursIn x ts → Renamed x
    renameds_in nil e x o = absurd o
    renameds_in (cons t ts) e x (inl o) = let k : eval (eval t ρ) ρ' ≡ t = cc in renamed_in t k x o
    renameds_in (cons t ts) e x (inr o) = let k : evals (evals ts ρ) ρ' ≡ ts = cc in renameds_in ts k x o

  apart : (u x : ℕ) → Renamed u → Renamed x → eqb (r u) (r x) ≡ eqb u x
  apart u x a b = go (eqb u x) refl
    where
      go : (t : Bool) → eqb u x ≡ t → eqb (r u) (r x) ≡ t
      go true e = eq-eqb (r u) (r x) (ap r (eqb-true u x e))
      go false e = ne_eqb (r u) (r x) (λ k. let l : var u ≡ var x = sym a.1 ∙ ap ρ' k ∙ b.1 in let m : u ≡ x = cc in let z : eqb u x ≡ true = eq-eqb u x m in let y : ◌≡◌ {A = ℕ} 0 1 = cc in omega arith)

  place_map : (x : ℕ) (us : List ℕ) → Renamed x → AllByRecursion Renamed us → place eqb (r x) (map r us) ≡ place eqb x us
  place_map x [] a h = refl
  place_map x (u ∷ us) a h = ap₂ (λ (b : Bool) (n : ℕ). cond b 0 (suc n)) (apart u x h.0 a) (place_map x us a h.1)

  note_map : (x : ℕ) (us : List ℕ) → Renamed x → AllByRecursion Renamed us → note eqb (r x) (map r us) ≡ map r (note eqb x us)
  note_map x [] a h = refl
  note_map x (u ∷ us) a h =
      ap₂ (λ (b : Bool) (ws : List ℕ). r u ∷ cond b (map r us) ws) (apart u x h.0 a) (note_map x us a h.1) ∙ go (eqb u x)
    where
      go : (b : Bool) → r u ∷ cond b (map r us) (map r (note eqb x us)) ≡ r u ∷ map r (cond b us (note eqb x us))
      go true = refl
      go false = refl

  renamed_note : (x : ℕ) → Renamed x → (us : List ℕ) → AllByRecursion Renamed us → AllByRecursion Renamed (note eqb x us)
  renamed_note x a us h = all_note Renamed eqb x us a h

  mutual
    seen_map : (t : Term ℕ) (us : List ℕ) → ((x : ℕ) → Occurs x t → Renamed x) → AllByRecursion Renamed us → through (note eqb) (eval t ρ) (map r us) ≡ map r (through (note eqb) t us)
    seen_map (var x) us a h = ap (λ t. through (note eqb) t (map r us)) (a x refl).0 ∙ note_map x us (a x refl) h
    seen_map (node f ts) us a h = seens_map ts us a h

    seens_map : (ts : Terms ℕ) (us : List ℕ) → ((x : ℕ) → OccursIn x ts → Renamed x) → AllByRecursion Renamed us → throughs (note eqb) (evals ts ρ) (map r us) ≡ map r (throughs (note eqb) ts us)
    seens_map nil us a h = refl
    seens_map (cons t ts) us a h =
        ap (throughs (note eqb) (evals ts ρ)) (seen_map t us (λ x o. a x (inl o)) h)
        ∙ seens_map ts (through (note eqb) t us) (λ x o. a x (inr o)) (through_keeps (note eqb) (AllByRecursion Renamed) t (λ x o. renamed_note x (a x (inl o))) us h)

  -- the values θ' are the values θ, named anew
  module _ (θ θ' : Values) where
    abbrev pub Fits : Name → Type 0
    Fits v = (θ' (named v) ≡ eval (θ (named v)) ρ) × (eval (eval (θ (named v)) ρ) ρ' ≡ θ (named v))

    values_map : (vs : List Name) → AllByRecursion Fits vs → values_of θ' vs ≡ evals (values_of θ vs) ρ
    values_map [] h = refl
    values_map (v ∷ vs) h = ap₂ cons h.0.0 (values_map vs h.1)

    values_back : (vs : List Name) → AllByRecursion Fits vs → evals (evals (values_of θ vs) ρ) ρ' ≡ values_of θ vs
    values_back [] h = refl
    values_back (v ∷ vs) h = ap₂ cons h.0.1 (values_back vs h.1)

    shown_map : (us : List ℕ) (vs : List Name) → AllByRecursion Renamed us → AllByRecursion Fits vs → shown (label_in (map r us)) θ' vs ≡ shown (label_in us) θ vs
    shown_map us [] a h = refl
    shown_map us (v ∷ vs) a h = ap₂ (λ (t : Term Name) (ts : Terms Name). cons (var v) (cons t ts)) value (shown_map us vs a h.1)
      where
        value : eval (θ' (named v)) (λ x. var (label_in (map r us) x)) ≡ eval (θ (named v)) (λ x. var (label_in us x))
        value =
            ap (λ t. eval t (λ x. var (label_in (map r us) x))) h.0.0
            ∙ eval_eval (θ (named v)) ρ (λ x. var (label_in (map r us) x))
            ∙ eval_on (θ (named v)) _ _ (λ x o. let k = renamed_in (θ (named v)) h.0.1 x o in
            ap (λ t. eval t (λ x. var (label_in (map r us) x))) k.0 ∙ ap (λ n. var (label n)) (place_map x us k a))

    pub line_map : (vs : List Name) → AllByRecursion Fits vs → line_of θ vs ≡ line_of θ' vs
    line_map vs h =
        let ts = values_of θ vs in
        let us = unbound ts in
        let in_ts : (x : ℕ) → OccursIn x ts → Renamed x = renameds_in ts (values_back vs h) in
        let us_is : unbound (values_of θ' vs) ≡ map r us = ap unbound (values_map vs h) ∙ seens_map ts [] in_ts tt in
        let all : AllByRecursion Renamed us = throughs_keeps (note eqb) (AllByRecursion Renamed) ts (λ x o. renamed_note x (in_ts x o)) [] tt in
        ap (λ z. joined ((65 ∷ []) ∷ decimal (length vs) ∷ map field (wordss z [])))
        (sym (shown_map us vs all h) ∙ ap (λ z. shown (label_in z) θ' vs) (sym us_is))

pub one_line : OneLine
one_line deck q p θ θ' a b =
    let to = a.general θ' b.solves in
    let fro = b.general θ a.solves in
    line_map to.0 fro.0 θ θ' (names_of q)
    (All-weaker (λ v. OccursIn (named v) q) _ (λ v o. (to.1 (named v) o, ap (λ t. eval t fro.0) (sym (to.1 (named v) o)) ∙ sym (fro.1 (named v) o))) (names_of q) (names_occur q))
