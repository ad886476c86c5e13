-- One field's step, in the reader's counts.
use Rattle.std.proofs.Common.{◌≡◌, ℕ, zero, suc, ◌+◌, ◌-◌, ◌<◌, true, false, cond, eqb, ltb, List, ◌∷◌, Ok, Err, Result, sym, refl, ap, ◌∙◌, arith}
use mathlib.Core.Path.{fun_ext}
use Rattle.std.proofs.lemmas.Bool.{ne_eqb}
use Rattle.lines.specs.declared.faults.LineFault.{LineFault}
use Rattle.lines.specs.declared.faults.LineFault.TheVariants.{Field, Heavy}
use Rattle.lines.specs.declared.reader.Awaited.{Awaited}
use Rattle.horn.specs.Notation.{Word, name, structure, variable, arity}
use Rattle.lines.specs.Lines.{then, word_at, cost, weighed, goal_only, check}
use Rattle.lines.specs.Steps.{check_at, counted, as_goal, as_argument, goal_step, step}

counted_then : (p q : ℕ) (s : Awaited) (fs : List (List ℕ)) → weighed p s.weight (check_at s q fs) ≡ then (λ e. e) (counted p s) (λ t. check_at t q fs)
counted_then p q s fs = elim (ltb 128 s.weight) as (λ t. cond t (Err (Heavy p)) (check_at s q fs) ≡ then (λ e. e) (cond t (Err (Heavy p)) (Ok s)) (λ t. check_at t q fs)) [ true ↦ refl | false ↦ refl ]

abbrev goes : Awaited → ℕ → List (List ℕ) → Word → Result ℕ LineFault
goes s p fs x = then (λ e. e) (step s p x) (λ t. check_at t (suc p) fs)

module _ (g n price w p : ℕ) (fs : List (List ℕ)) where
  goal_counted : (x : Word) → weighed p (w + price) (check g (arity x) 1 (w + price) (suc p) fs) ≡ then (λ e. e) (counted p (as_goal (record { goals = suc g; need = 0; price = price; weight = w }) x)) (λ t. check_at t (suc p) fs)
  goal_counted x =
      ap (λ k. weighed p (w + price) (check k (arity x) 1 (w + price) (suc p) fs)) {x = g} {y = suc g - 1} (omega arith)
      ∙ counted_then p (suc p) (as_goal (record { goals = suc g; need = 0; price = price; weight = w }) x) fs

  at_goal : (x : Word) → goal_only p x (weighed p (w + price) (check g (arity x) 1 (w + price) (suc p) fs)) ≡ goes (record { goals = suc g; need = 0; price = price; weight = w }) p fs x
  at_goal (name f) = goal_counted (name f)
  at_goal (structure f k) = goal_counted (structure f k)
  at_goal (variable v) = refl

  at_argument : (x : Word) → weighed p (w + cost x) (check g (arity x + n) price (w + cost x) (suc p) fs) ≡ goes (record { goals = g; need = suc n; price = price; weight = w }) p fs x
  at_argument x =
      ap (λ k. weighed p (w + cost x) (check g (arity x + k) price (w + cost x) (suc p) fs)) {x = n} {y = suc n - 1} (omega arith)
      ∙ counted_then p (suc p) (as_argument (record { goals = g; need = suc n; price = price; weight = w }) x) fs
      ∙ ap (λ t. then (λ e. e) (cond t (goal_step (record { goals = g; need = suc n; price = price; weight = w }) p x) (counted p (as_argument (record { goals = g; need = suc n; price = price; weight = w }) x))) (λ t. check_at t (suc p) fs)) {x = false} {y = eqb (suc n) 0} (sym (ne_eqb (suc n) 0 (λ e. omega arith)))

stepped : (g n price w p : ℕ) (f : List ℕ) (fs : List (List ℕ)) → (n ≡ 0 → 0 < g)
    → check g n price w p (f ∷ fs) ≡ then Field (word_at p f) (goes (record { goals = g; need = n; price = price; weight = w }) p fs)
stepped zero zero price w p f fs h = absurd (let k = h refl in omega arith)
stepped (suc g) zero price w p f fs h = ap (then Field (word_at p f)) (fun_ext (at_goal g 0 price w p fs))
stepped g (suc n) price w p f fs h = ap (then Field (word_at p f)) (fun_ext (at_argument g n price w p fs))

pub check_step : (s : Awaited) (p : ℕ) (f : List ℕ) (fs : List (List ℕ)) → (s.need ≡ 0 → 0 < s.goals)
    → check_at s p (f ∷ fs) ≡ then Field (word_at p f) (λ x. then (λ e. e) (step s p x) (λ t. check_at t (suc p) fs))
check_step s p f fs h = stepped s.goals s.need s.price s.weight p f fs h

-- a turn of the reader
module _ (s : Awaited) (p : ℕ) (f : List ℕ) (xs fs : List (List ℕ)) (x : Word) (some : s.need ≡ 0 → 0 < s.goals) (parts : xs ≡ f ∷ fs) (word : Ok x ≡ word_at p f) where
  at_word : check_at s p xs ≡ then (λ e. e) (step s p x) (λ t. check_at t (suc p) fs)
  at_word = ap (check_at s p) parts ∙ check_step s p f fs some ∙ ap (λ r. then Field r (goes s p fs)) (sym word)

  pub turn_on : (t : Awaited) → Ok t ≡ step s p x → check_at s p xs ≡ check_at t (p + 1) fs
  turn_on t e = at_word ∙ ap (λ r. then (λ e. e) r (λ t. check_at t (suc p) fs)) (sym e) ∙ ap (λ k. check_at t k fs) {x = suc p} {y = p + 1} (omega arith)
