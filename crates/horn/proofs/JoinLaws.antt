-- Laws of `join`, `front` and `back`.
use Rattle.std.proofs.Common.{◌≡◌, ℕ, zero, suc, ◌+◌, ◌≤◌, refl, ap, ◌∙◌, arith}
use Rattle.horn.specs.Terms.{Terms, nil, cons, count, front, back, join}

pub join_nil : {V : Type 0} (ts : Terms V) → join ts nil ≡ ts
join_nil nil = refl
join_nil (cons t ts) = ap (cons t) (join_nil ts)

pub front_join : {V : Type 0} (ts us : Terms V) → front (count ts) (join ts us) ≡ ts
front_join nil us = refl
front_join (cons t ts) us = ap (cons t) (front_join ts us)

pub back_join : {V : Type 0} (ts us : Terms V) → back (count ts) (join ts us) ≡ us
back_join nil us = refl
back_join (cons t ts) us = back_join ts us

pub count_front : {V : Type 0} (n : ℕ) (ts : Terms V) → n ≤ count ts → count (front n ts) ≡ n
count_front zero ts h = refl
count_front (suc n) nil h = absurd (omega arith)
count_front (suc n) (cons t ts) h = ap suc (count_front n ts (omega arith))

pub count_back : {V : Type 0} (n : ℕ) (ts : Terms V) → n ≤ count ts → count (back n ts) + n ≡ count ts
count_back zero ts h = omega arith
count_back (suc n) nil h = absurd (omega arith)
count_back (suc n) (cons t ts) h = omega (arith, count_back n ts (omega arith))

pub back_back : {V : Type 0} (k n : ℕ) (ts : Terms V) → back (k + n) ts ≡ back n (back k ts)
back_back zero n ts = ap (λ m. back m ts) (omega arith)
back_back (suc k) zero nil = ap (λ m. back m nil) {x = suc k + zero} {y = suc k} (omega arith)
back_back (suc k) (suc n) nil = ap (λ m. back m nil) {x = suc k + suc n} {y = suc (k + suc n)} (omega arith)
back_back (suc k) n (cons t ts) = ap (λ m. back m (cons t ts)) {x = suc k + n} {y = suc (k + n)} (omega arith) ∙ back_back k n ts

-- what a front and a back have together
pub front_more : {V : Type 0} (k n : ℕ) (ts : Terms V) → front (k + n) ts ≡ join (front k ts) (front n (back k ts))
front_more zero n ts = ap (λ m. front m ts) (omega arith)
front_more (suc k) zero nil = ap (λ m. front m nil) {x = suc k + zero} {y = suc k} (omega arith)
front_more (suc k) (suc n) nil = ap (λ m. front m nil) {x = suc k + suc n} {y = suc (k + suc n)} (omega arith)
front_more (suc k) n (cons t ts) = ap (λ m. front m (cons t ts)) {x = suc k + n} {y = suc (k + n)} (omega arith) ∙ ap (cons t) (front_more k n ts)
