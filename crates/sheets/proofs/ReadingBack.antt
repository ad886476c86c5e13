-- An answer line is read back as the answer's terms.
use Rattle.std.proofs.Common.{◌≡◌, ℕ, suc, ◌+◌, ◌^◌, ◌<◌, ◌≤◌, Bool, true, false, cond, List, [], ◌∷◌, map, length, drop, decimal, sym, refl, ap, ◌∙◌, subst, inl, inr, arith}
use Rattle.std.specs.List.{AllByRecursion}
use Rattle.std.proofs.ByRecursion.{All-weaker}
use Rattle.horn.specs.Terms.{Name, Term, Terms, var, node, nil, cons, count, eval, evals}
use Rattle.horn.specs.Clauses.{Variable, named, blank, Query, called, written}
use Rattle.horn.specs.Notation.{field, word_for, wordss}
use Rattle.horn.specs.Weights.{weigh, weighs, load}
use Rattle.horn.specs.Equations.{same_name}
use Rattle.horn.specs.Answers.{Occurs, OccursIn, Values, note, through, throughs, note_name, names_of, values_of, unbound, label_in, shown}
use Rattle.horn.proofs.TermLaws.{count_evals}
use Rattle.horn.proofs.Lines.{names_occur}
use Rattle.lines.specs.Words.{plain, is_variable, GoodWord}
use Rattle.lines.specs.Lines.{build}
use Rattle.lines.specs.Grammar.{Good, Goods}
use Rattle.lines.proofs.WordLaws.{every_free}
use Rattle.lines.proofs.FieldLaws.{split_joined}
use Rattle.lines.proofs.Spelt.{built}
use Rattle.lines.proofs.Readings.{frees_terms}
use Rattle.lines.proofs.ClauseLaws.{one_query}
use Rattle.sheets.specs.ReadBack.{AnswersReadBack}
use Rattle.sheets.proofs.Spellable.{Sound, Sounds, spellable_good}
use Rattle.sheets.proofs.Sounding.{answer_sound, deck_sound, query_sound}
use Rattle.sheets.proofs.Labels.{decimal_plain, label_good, label_one}

-- a variable's name in written terms is a variable's
mutual
  variable_good : (t : Term Variable) → Good (eval t (λ v. var (called v))) → (v : Name) → Occurs (named v) t → is_variable v ≡ true
  variable_good (var u) h v o = subst (λ w. is_variable (called w) ≡ true) (sym o) h
  variable_good (node f ts) h v o = variables_good ts h.1 v o

  variables_good : (ts : Terms Variable) → Goods (written ts) → (v : Name) → OccursIn (named v) ts → is_variable v ≡ true
  variables_good nil h v o = absurd o
  variables_good (cons t ts) h v (inl o) = variable_good t h.0 v o
  variables_good (cons t ts) h v (inr o) = variables_good ts h.1 v o

-- one name more at most
length_note : (same : Name → Name → Bool) (v : Name) (vs : List Name) → length (note same v vs) ≤ length vs + 1
length_note same v [] = omega arith
length_note same v (u ∷ us) = go (length_note same v us) (same u v)
  where
    go : length (note same v us) ≤ length us + 1 → (b : Bool) → suc (length (cond b us (note same v us))) ≤ suc (length us) + 1
    go ih true = omega arith
    go ih false = omega arith

length_name : (v : Variable) (vs : List Name) → length (note_name v vs) ≤ length vs + 1
length_name (named v) vs = length_note same_name v vs
length_name (blank n) vs = omega arith

-- each name has a weight
mutual
  length_through : (t : Term Variable) (vs : List Name) → length (through note_name t vs) ≤ length vs + weigh (eval t (λ v. var (called v)))
  length_through (var v) vs = length_name v vs
  length_through (node f ts) vs = omega (arith, length_throughs ts vs)

  length_throughs : (ts : Terms Variable) (vs : List Name) → length (throughs note_name ts vs) ≤ length vs + weighs (written ts)
  length_throughs nil vs = omega arith
  length_throughs (cons t ts) vs = omega (arith, length_through t vs, length_throughs ts (through note_name t vs))

length_goals : (q : Query) (vs : List Name) → length (throughs note_name q vs) ≤ length vs + load 1 (written q)
length_goals nil vs = omega arith
length_goals (cons (var v) q) vs = omega (arith, length_name v vs, length_goals q (note_name v vs))
length_goals (cons (node f ts) q) vs = omega (arith, length_throughs ts vs, length_goals q (throughs note_name ts vs))

-- values with symbols and names that can be spelt
module _ (ν : ℕ → Name) where
  mutual
    value_good : (t : Term ℕ) → Sound t → ((x : ℕ) → Occurs x t → is_variable (ν x) ≡ true) → Good (eval t (λ x. var (ν x)))
    value_good (var x) h k = k x refl
    value_good (node f ts) h k =
        (subst (λ n. GoodWord (word_for f n)) (sym (count_evals ts (λ x. var (ν x)))) (spellable_good f (count ts) h.0), values_good ts h.1 k)

    values_good : (ts : Terms ℕ) → Sounds ts → ((x : ℕ) → OccursIn x ts → is_variable (ν x) ≡ true) → Goods (evals ts (λ x. var (ν x)))
    values_good nil h k = tt
    values_good (cons t ts) h k = (value_good t h.0 (λ x o. k x (inl o)), values_good ts h.1 (λ x o. k x (inr o)))

  shown_good : (θ : Values) (vs : List Name) → AllByRecursion (λ v. (is_variable v ≡ true) × Sound (θ (named v))) vs → ((x : ℕ) → OccursIn x (values_of θ vs) → is_variable (ν x) ≡ true) → Goods (shown ν θ vs)
  shown_good θ [] h k = tt
  shown_good θ (v ∷ vs) h k = (h.0.0, (value_good (θ (named v)) h.0.1 (λ x o. k x (inl o)), shown_good θ vs h.1 (λ x o. k x (inr o))))

pub read_back : AnswersReadBack
read_back lines line deck q d e p θ a few =
    let vs = names_of q in
    let ts = values_of θ vs in
    let ν = label_in (unbound ts) in
    let proper = ((one_query line q).0 e).reading.proper in
    let fit : AllByRecursion (λ v. (is_variable v ≡ true) × Sound (θ (named v))) vs =
    All-weaker (λ v. OccursIn (named v) q) _ (λ v o. (variables_good q proper.good v o, answer_sound deck q p (deck_sound lines deck d) (query_sound line q e) θ a (named v) o)) vs (names_occur q) in
    let good = shown_good ν θ vs fit (label_good ts few) in
    let short : length vs < 2 ^ 64 = omega (arith, length_goals q [], proper.light) in (
      ν,
      label_one ts few,
      ap (λ fs. build (drop 2 fs))
          (split_joined (65 ∷ []) (decimal (length vs) ∷ map field (wordss (shown ν θ vs) [])) (refl, tt)
          (every_free plain 44 (decimal (length vs)) refl (decimal_plain (length vs) short), frees_terms (shown ν θ vs) [] good tt))
          ∙ built (shown ν θ vs) good,
    )
