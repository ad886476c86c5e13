-- What is spelt by the grammar is accepted.
use Rattle.std.proofs.Common.{◌≡◌, ℕ, zero, suc, ◌+◌, ◌≤◌, ltb, List, [], ◌∷◌, map, Ok, refl, ap, ◌∙◌, ap₂, arith}
use Rattle.std.proofs.lemmas.Bool.{cond-false, le-ltb}
use Rattle.lines.specs.declared.faults.LineFault.TheVariants.{Field}
use Rattle.lines.specs.declared.faults.FieldFault.TheVariants.{Form}
use Rattle.horn.specs.Terms.{Term, var, node, nil, cons, count, Name, join}
use Rattle.horn.specs.Notation.{Word, variable, field, arity, word_for, words, wordss}
use Rattle.lines.specs.Words.{GoodWord}
use Rattle.horn.specs.Clauses.{Written, Callables}
use Rattle.lines.specs.Lines.{then, ok_or, cost, weighed, goal_only, check, push, noted, build}
use Rattle.lines.specs.Grammar.{Good, Goods}
use Rattle.horn.specs.Weights.{own, weigh, weighs, load}
use Rattle.horn.proofs.JoinLaws.{join_nil, front_join, back_join}
use Rattle.lines.proofs.WordLaws.{word_field}

pub arity_for : (f : Name) (n : ℕ) → arity (word_for f n) ≡ n
arity_for f zero = refl
arity_for f (suc n) = refl

pub cost_for : (f : Name) (ts : Written) → cost (word_for f (count ts)) ≡ own ts
cost_for f nil = refl
cost_for f (cons t ts) = refl

module _ (g price p : ℕ) (fs : List (List ℕ)) where
  pub check_at_lem : (n m w v : ℕ) → n ≡ m → w ≡ v → check g n price w p fs ≡ check g m price v p fs
  check_at_lem n m w v e d = ap₂ (λ x y. check g x price y p fs) e d

  pub arg_step : (n w : ℕ) (x : Word) → GoodWord x → w + cost x ≤ 128
      → check g (suc n) price w p (field x ∷ fs) ≡ check g (arity x + n) price (w + cost x) (suc p) fs
  arg_step n w x h l =
      ap (λ o. then Field (ok_or (Form p) o) (λ y. weighed p (w + cost y) (check g (arity y + n) price (w + cost y) (suc p) fs))) (word_field x h)
      ∙ cond-false (ltb 128 (w + cost x)) _ _ (le-ltb 128 (w + cost x) l)

  pub goal_step_lem : (w : ℕ) (f : Name) (n : ℕ) → GoodWord (word_for f n) → w + price ≤ 128
      → check (suc g) 0 price w p (field (word_for f n) ∷ fs) ≡ check g n 1 (w + price) (suc p) fs
  goal_step_lem w f n h l =
      ap (λ o. then Field (ok_or (Form p) o) (λ y. goal_only p y (weighed p (w + price) (check g (arity y) 1 (w + price) (suc p) fs)))) (word_field (word_for f n) h)
      ∙ go n
      ∙ cond-false (ltb 128 (w + price)) _ _ (le-ltb 128 (w + price) l)
    where
      go : (m : ℕ) → goal_only p (word_for f m) (weighed p (w + price) (check g (arity (word_for f m)) 1 (w + price) (suc p) fs)) ≡ weighed p (w + price) (check g m 1 (w + price) (suc p) fs)
      go zero = refl
      go (suc m) = refl

module _ (g price : ℕ) where
  mutual
    pub term_step : (t : Term Name) (n w p : ℕ) (ws : List Word) → Good t → w + weigh t ≤ 128
        → (q : ℕ) × (check g (suc n) price w p (map field (words t ws)) ≡ check g n price (w + weigh t) q (map field ws))
    term_step (var v) n w p ws h l =
        (suc p, arg_step g price p (map field ws) n w (variable v) h l ∙ check_at_lem g price (suc p) (map field ws) (0 + n) n (w + 1) (w + 1) (omega arith) refl)
    term_step (node f ts) n w p ws h l =
        let x = word_for f (count ts) in
        let c : cost x ≡ own ts = cost_for f ts in
        let fs = map field (wordss ts ws) in
        let ih = terms_step ts n (w + own ts) (suc p) ws h.1 (omega arith) in (
          ih.0,
          arg_step g price p fs n w x h.0 (omega arith)
              ∙ check_at_lem g price (suc p) fs (arity x + n) (count ts + n) (w + cost x) (w + own ts) (ap (λ k. k + n) (arity_for f (count ts))) (omega arith)
              ∙ ih.1
              ∙ check_at_lem g price ih.0 (map field ws) n n (w + own ts + weighs ts) (w + (own ts + weighs ts)) refl (omega arith),
        )

    pub terms_step : (ts : Written) (n w p : ℕ) (ws : List Word) → Goods ts → w + weighs ts ≤ 128
        → (q : ℕ) × (check g (count ts + n) price w p (map field (wordss ts ws)) ≡ check g n price (w + weighs ts) q (map field ws))
    terms_step nil n w p ws h l = (p, check_at_lem g price p (map field ws) (0 + n) n w (w + 0) (omega arith) (omega arith))
    terms_step (cons t ts) n w p ws h l =
        let fs = map field (words t (wordss ts ws)) in
        let one = term_step t (count ts + n) w p (wordss ts ws) h.0 (omega arith) in
        let ih = terms_step ts n (w + weigh t) one.0 ws h.1 (omega arith) in (
          ih.0,
          check_at_lem g price p fs (suc (count ts) + n) (suc (count ts + n)) w w (omega arith) refl
              ∙ one.1 ∙ ih.1
              ∙ check_at_lem g price ih.0 (map field ws) n n (w + weigh t + weighs ts) (w + (weigh t + weighs ts)) refl (omega arith),
        )

pub goals_step : (ts : Written) (price w p : ℕ) → Goods ts → Callables ts → w + load price ts ≤ 128
    → check (count ts) 0 price w p (map field (wordss ts [])) ≡ Ok (w + load price ts)
goals_step nil price w p h c l = ap Ok (omega arith)
goals_step (cons (var v) ts) price w p h c l = absurd c.0
goals_step (cons (node f us) ts) price w p h c l =
    let fs = map field (wordss us (wordss ts [])) in
    let args = terms_step (count ts) 1 us 0 (w + price) (suc p) (wordss ts []) h.0.1 (omega arith) in
    goal_step_lem (count ts) price p fs w f (count us) h.0.0 (omega arith)
    ∙ check_at_lem (count ts) 1 (suc p) fs (count us) (count us + 0) (w + price) (w + price) (omega arith) refl
    ∙ args.1
    ∙ goals_step ts 1 (w + price + weighs us) args.0 h.1 c.1 (omega arith)
    ∙ ap Ok (omega arith)

-- and built again
built_one : (x : Word) (fs : List (List ℕ)) → GoodWord x → build (field x ∷ fs) ≡ push x (build fs)
built_one x fs h = ap (λ o. noted o (build fs)) (word_field x h)

push_for : (f : Name) (ts us : Written) → push (word_for f (count ts)) (join ts us) ≡ cons (node f ts) us
push_for f nil us = refl
push_for f (cons t ts) us = ap₂ (λ x y. cons (node f x) y) (front_join (cons t ts) us) (back_join (cons t ts) us)

mutual
  pub built_term : (t : Term Name) (ws : List Word) → Good t → build (map field (words t ws)) ≡ cons t (build (map field ws))
  built_term (var v) ws h = built_one (variable v) (map field ws) h
  built_term (node f ts) ws h =
      built_one (word_for f (count ts)) (map field (wordss ts ws)) h.0
      ∙ ap (push (word_for f (count ts))) (built_terms ts ws h.1)
      ∙ push_for f ts (build (map field ws))

  pub built_terms : (ts : Written) (ws : List Word) → Goods ts → build (map field (wordss ts ws)) ≡ join ts (build (map field ws))
  built_terms nil ws h = refl
  built_terms (cons t ts) ws h = built_term t (wordss ts ws) h.0 ∙ ap (cons t) (built_terms ts ws h.1)

pub built : (ts : Written) → Goods ts → build (map field (wordss ts [])) ≡ ts
built ts h = built_terms ts [] h ∙ join_nil ts
