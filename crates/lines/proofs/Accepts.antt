-- What is accepted is spelt by the grammar.
use Rattle.std.proofs.Common.{◌≡◌, ℕ, zero, suc, ◌+◌, ◌≤◌, Bool, true, false, cond, ltb, List, [], ◌∷◌, map, Some, None, Ok, Err, Option, Result, sym, refl, ap, ◌∙◌, subst, ap₂, arith}
use Rattle.std.proofs.lemmas.Bool.{ltb-false, leb-true}
use Rattle.lines.specs.declared.faults.LineFault.{LineFault}
use Rattle.lines.specs.declared.faults.LineFault.TheVariants.{Field, Heavy, Variable}
use Rattle.lines.specs.declared.faults.FieldFault.TheVariants.{Form}
use Rattle.horn.specs.Terms.{node, nil, cons, count, front, back, Name, join}
use Rattle.horn.specs.Notation.{Word, name, structure, variable, field, arity, word_for, words, wordss}
use Rattle.lines.specs.Words.{word_of, GoodWord}
use Rattle.horn.specs.Clauses.{Written, Callables}
use Rattle.lines.specs.Lines.{then, ok_or, cost, weighed, goal_only, check, push, noted, build}
use Rattle.lines.specs.Grammar.{Goods}
use Rattle.horn.specs.Weights.{own, weighs, load}
use Rattle.horn.proofs.JoinLaws.{front_more, back_back, count_front, count_back}
use Rattle.lines.proofs.WordLaws.{Spells, field_word}

pub record Accepted (g n price w v : ℕ) (fs : List (List ℕ)) (ts : Written) : Type 0 where
  pub counted : count ts ≡ n + g
  pub spelt : map field (wordss ts []) ≡ fs
  pub good : Goods ts
  pub callable : Callables (back n ts)
  pub weight : v ≡ w + (weighs (front n ts) + load price (back n ts))
  pub light : v ≤ 128

-- parts of a list
weighs_join : (ts us : Written) → weighs (join ts us) ≡ weighs ts + weighs us
weighs_join nil us = omega arith
weighs_join (cons t ts) us = omega (arith, weighs_join ts us)

pub words_parts : (k : ℕ) (ts : Written) (ws : List Word) → wordss (front k ts) (wordss (back k ts) ws) ≡ wordss ts ws
words_parts zero ts ws = refl
words_parts (suc k) nil ws = refl
words_parts (suc k) (cons t ts) ws = ap (words t) (words_parts k ts ws)

goods_front : (k : ℕ) (ts : Written) → Goods ts → Goods (front k ts)
goods_front zero ts h = tt
goods_front (suc k) nil h = tt
goods_front (suc k) (cons t ts) h = (h.0, goods_front k ts h.1)

goods_back : (k : ℕ) (ts : Written) → Goods ts → Goods (back k ts)
goods_back zero ts h = h
goods_back (suc k) nil h = tt
goods_back (suc k) (cons t ts) h = goods_back k ts h.1

own_some : (ts : Written) → 1 ≤ count ts → own ts ≡ 2
own_some nil h = absurd (omega arith)
own_some (cons t ts) h = refl

for_some : (f : Name) (n : ℕ) → 1 ≤ n → word_for f n ≡ structure f n
for_some f zero h = absurd (omega arith)
for_some f (suc n) h = refl

never : {A : Type 0} (e : LineFault) (v : ℕ) → Err e ≡ Ok v → A
never e v h = let z : ◌≡◌ {A = ℕ} 0 1 = cc in absurd (omega arith)

weighed_ok : (p w v : ℕ) (r : Result ℕ LineFault) → weighed p w r ≡ Ok v → (w ≤ 128) × (r ≡ Ok v)
weighed_ok p w v r = go (ltb 128 w) refl
  where
    go : (t : Bool) → ltb 128 w ≡ t → cond t (Err (Heavy p)) r ≡ Ok v → (w ≤ 128) × (r ≡ Ok v)
    go true e h = never (Heavy p) v h
    go false e h = (ltb-false 128 w e, h)

module _ (g price w v : ℕ) (f : Name) (fs : List (List ℕ)) (ts : Written) where
  -- what a structure takes
  module _ (n k u c : ℕ) (nm : Name) (s : Spells f (structure nm k)) (a : Accepted g (k + n) c u v fs ts) where
    enough : k ≤ count ts
    enough = omega (arith, a.counted)

    at_least : 1 ≤ k
    at_least = leb-true 1 k s.1.1.0

    taken : count (front k ts) ≡ k
    taken = count_front k ts enough

    left : count (back k ts) ≡ n + g
    left = omega (arith, count_back k ts enough, a.counted)

    word : word_for nm (count (front k ts)) ≡ structure nm k
    word = ap (word_for nm) taken ∙ for_some nm k at_least

    spelling : map field (wordss (cons (node nm (front k ts)) (back k ts)) []) ≡ f ∷ fs
    spelling =
        ap₂ (λ (x : Word) (xs : List Word). field x ∷ map field xs) word (words_parts k ts [])
        ∙ ap₂ (λ (x : List ℕ) (xs : List (List ℕ)). x ∷ xs) s.0 a.spelt

    goodness : Goods (cons (node nm (front k ts)) (back k ts))
    goodness = ((subst GoodWord (sym word) s.1, goods_front k ts a.good), goods_back k ts a.good)

    backs : back (k + n) ts ≡ back n (back k ts)
    backs = back_back k n ts

    fronts : weighs (front (k + n) ts) ≡ weighs (front k ts) + weighs (front n (back k ts))
    fronts = ap weighs (front_more k n ts) ∙ weighs_join (front k ts) (front n (back k ts))

    owns : own (front k ts) ≡ 2
    owns = own_some (front k ts) (omega (arith, taken, at_least))

  pub arg_taken : (n : ℕ) (x : Word) → Spells f x → Accepted g (arity x + n) price (w + cost x) v fs ts → Accepted g (suc n) price w v (f ∷ fs) (push x ts)
  arg_taken n (name nm) s a =
      let b : Accepted g n price (w + 1) v fs ts = subst (λ k. Accepted g k price (w + 1) v fs ts) {x = 0 + n} {y = n} (omega arith) a in
      record {
        counted = omega (arith, b.counted);
        spelt = ap₂ (λ (x : List ℕ) (xs : List (List ℕ)). x ∷ xs) s.0 b.spelt;
        good = ((s.1, tt), b.good);
        callable = b.callable;
        weight = omega (arith, b.weight);
        light = b.light;
      }
  arg_taken n (structure nm k) s a =
      record {
        counted = omega (arith, left n k (w + 2) price nm s a);
        spelt = spelling n k (w + 2) price nm s a;
        good = goodness n k (w + 2) price nm s a;
        callable = subst Callables (backs n k (w + 2) price nm s a) a.callable;
        weight = omega (arith, a.weight, fronts n k (w + 2) price nm s a, owns n k (w + 2) price nm s a, ap (load price) (backs n k (w + 2) price nm s a));
        light = a.light;
      }
  arg_taken n (variable nm) s a =
      let b : Accepted g n price (w + 1) v fs ts = subst (λ k. Accepted g k price (w + 1) v fs ts) {x = 0 + n} {y = n} (omega arith) a in
      record {
        counted = omega (arith, b.counted);
        spelt = ap₂ (λ (x : List ℕ) (xs : List (List ℕ)). x ∷ xs) s.0 b.spelt;
        good = (s.1, b.good);
        callable = b.callable;
        weight = omega (arith, b.weight);
        light = b.light;
      }

  pub goal_taken : (p : ℕ) (x : Word) (r : Result ℕ LineFault) → Spells f x → goal_only p x r ≡ Ok v
      → ((e : r ≡ Ok v) → Accepted g (arity x) 1 (w + price) v fs ts) → Accepted (suc g) 0 price w v (f ∷ fs) (push x ts)
  goal_taken p (name nm) r s e i =
      let a = i e in
      record {
        counted = omega (arith, a.counted);
        spelt = ap₂ (λ (x : List ℕ) (xs : List (List ℕ)). x ∷ xs) s.0 a.spelt;
        good = ((s.1, tt), a.good);
        callable = (tt, a.callable);
        weight = omega (arith, a.weight);
        light = a.light;
      }
  goal_taken p (structure nm k) r s e i =
      let a = i e in
      let b : Accepted g (k + 0) 1 (w + price) v fs ts = subst (λ k. Accepted g k 1 (w + price) v fs ts) {x = k} {y = k + 0} (omega arith) a in
      record {
        counted = omega (arith, left 0 k (w + price) 1 nm s b);
        spelt = spelling 0 k (w + price) 1 nm s b;
        good = goodness 0 k (w + price) 1 nm s b;
        callable = (tt, a.callable);
        weight = omega (arith, a.weight);
        light = a.light;
      }
  goal_taken p (variable nm) r s e i = never (Variable p) v e

abbrev Sound : List (List ℕ) → Type 0
Sound fs = (g n price w p v : ℕ) → w ≤ 128 → check g n price w p fs ≡ Ok v → Accepted g n price w v fs (build fs)

arg_case : (f : Name) (fs : List (List ℕ)) → Sound fs → (g n price w p v : ℕ) (o : Option Word) → word_of f ≡ o
    → then Field (ok_or (Form p) o) (λ x. weighed p (w + cost x) (check g (arity x + n) price (w + cost x) (suc p) fs)) ≡ Ok v
    → Accepted g (suc n) price w v (f ∷ fs) (noted o (build fs))
arg_case f fs ih g n price w p v None q e = never (Field (Form p)) v e
arg_case f fs ih g n price w p v (Some x) q e =
    let k = weighed_ok p (w + cost x) v (check g (arity x + n) price (w + cost x) (suc p) fs) e in
    arg_taken g price w v f fs (build fs) n x (field_word f x q) (ih g (arity x + n) price (w + cost x) (suc p) v k.0 k.1)

goal_case : (f : Name) (fs : List (List ℕ)) → Sound fs → (g price w p v : ℕ) (o : Option Word) → word_of f ≡ o
    → then Field (ok_or (Form p) o) (λ x. goal_only p x (weighed p (w + price) (check g (arity x) 1 (w + price) (suc p) fs))) ≡ Ok v
    → Accepted (suc g) 0 price w v (f ∷ fs) (noted o (build fs))
goal_case f fs ih g price w p v None q e = never (Field (Form p)) v e
goal_case f fs ih g price w p v (Some x) q e =
    goal_taken g price w v f fs (build fs) p x (weighed p (w + price) (check g (arity x) 1 (w + price) (suc p) fs)) (field_word f x q) e
    (λ d. let k = weighed_ok p (w + price) v (check g (arity x) 1 (w + price) (suc p) fs) d in ih g (arity x) 1 (w + price) (suc p) v k.0 k.1)

pub accepted : (fs : List (List ℕ)) → Sound fs
accepted [] zero zero price w p v l e =
    let q : w ≡ v = cc in
    record { counted = refl; spelt = refl; good = tt; callable = tt; weight = omega arith; light = omega arith }
accepted [] (suc g) zero price w p v l e = never _ v e
accepted [] g (suc n) price w p v l e = never _ v e
accepted (f ∷ fs) zero zero price w p v l e = never _ v e
accepted (f ∷ fs) (suc g) zero price w p v l e = goal_case f fs (accepted fs) g price w p v (word_of f) refl e
accepted (f ∷ fs) g (suc n) price w p v l e = arg_case f fs (accepted fs) g n price w p v (word_of f) refl e
