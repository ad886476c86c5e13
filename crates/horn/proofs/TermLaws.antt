-- Laws of terms and of what stands for their variables.
use Rattle.std.proofs.Common.{◌≡◌, ℕ, suc, true, eqb, [], ◌∷◌, sym, refl, ap, ◌∙◌, subst, ap₂, inl, inr, arith}
use Rattle.std.proofs.lemmas.Bool.{and_from, and_parts, eq-eqb, eqb-true}
use Rattle.horn.specs.Terms.{Name, Term, Terms, var, node, nil, cons, count, join, eval, evals}
use Rattle.horn.specs.Clauses.{Callable, Callables}
use Rattle.horn.specs.Equations.{same_name, same_symbol}
use Rattle.horn.specs.Answers.{Occurs, OccursIn}
use Rattle.horn.specs.Instances.{head_name}

mutual
  pub eval_eval : {U V W : Type 0} (t : Term U) (ρ : U → Term V) (τ : V → Term W) → eval (eval t ρ) τ ≡ eval t (λ v. eval (ρ v) τ)
  eval_eval (var v) ρ τ = refl
  eval_eval (node f ts) ρ τ = ap (node f) (evals_evals ts ρ τ)

  pub evals_evals : {U V W : Type 0} (ts : Terms U) (ρ : U → Term V) (τ : V → Term W) → evals (evals ts ρ) τ ≡ evals ts (λ v. eval (ρ v) τ)
  evals_evals nil ρ τ = refl
  evals_evals (cons t ts) ρ τ = ap₂ cons (eval_eval t ρ τ) (evals_evals ts ρ τ)

pub evals_join : {V W : Type 0} (ts us : Terms V) (ρ : V → Term W) → evals (join ts us) ρ ≡ join (evals ts ρ) (evals us ρ)
evals_join nil us ρ = refl
evals_join (cons t ts) us ρ = ap (cons (eval t ρ)) (evals_join ts us ρ)

pub count_evals : {V W : Type 0} (ts : Terms V) (ρ : V → Term W) → count (evals ts ρ) ≡ count ts
count_evals nil ρ = refl
count_evals (cons t ts) ρ = ap suc (count_evals ts ρ)

-- the same terms for each variable
pub each : {V W : Type 0} {ρ τ : V → Term W} → ((v : V) → ρ v ≡ τ v) → ρ ≡ τ
each h = λ i v. h v i

-- terms are the same under what agrees on their variables
mutual
  pub eval_on : {V W : Type 0} (t : Term V) (σ τ : V → Term W) → ((v : V) → Occurs v t → σ v ≡ τ v) → eval t σ ≡ eval t τ
  eval_on (var v) σ τ h = h v refl
  eval_on (node f ts) σ τ h = ap (node f) (evals_on ts σ τ h)

  pub evals_on : {V W : Type 0} (ts : Terms V) (σ τ : V → Term W) → ((v : V) → OccursIn v ts → σ v ≡ τ v) → evals ts σ ≡ evals ts τ
  evals_on nil σ τ h = refl
  evals_on (cons t ts) σ τ h = ap₂ cons (eval_on t σ τ (λ v o. h v (inl o))) (evals_on ts σ τ (λ v o. h v (inr o)))

-- and then they agree on their variables
mutual
  pub eval_off : {V W : Type 0} (t : Term V) (σ τ : V → Term W) → eval t σ ≡ eval t τ → (v : V) → Occurs v t → σ v ≡ τ v
  eval_off (var u) σ τ e v o = ap σ o ∙ e ∙ ap τ (sym o)
  eval_off (node f ts) σ τ e v o = let k : evals ts σ ≡ evals ts τ = cc in evals_off ts σ τ k v o

  pub evals_off : {V W : Type 0} (ts : Terms V) (σ τ : V → Term W) → evals ts σ ≡ evals ts τ → (v : V) → OccursIn v ts → σ v ≡ τ v
  evals_off nil σ τ e v o = absurd o
  evals_off (cons t ts) σ τ e v (inl o) = let k : eval t σ ≡ eval t τ = cc in eval_off t σ τ k v o
  evals_off (cons t ts) σ τ e v (inr o) = let k : evals ts σ ≡ evals ts τ = cc in evals_off ts σ τ k v o

pub uncons : {V W : Type 0} (gs : Terms V) (ρ : V → Term W) (t : Term W) (us : Terms W) → evals gs ρ ≡ cons t us → (g : Term V) × (rest : Terms V) × (gs ≡ cons g rest) × (eval g ρ ≡ t) × (evals rest ρ ≡ us)
uncons nil ρ t us e = let z : ◌≡◌ {A = ℕ} 0 1 = cc in absurd (omega arith)
uncons (cons g gs) ρ t us e = (g, gs, refl, cc, cc)

pub unnil : {V W : Type 0} (gs : Terms V) (ρ : V → Term W) → evals gs ρ ≡ nil → gs ≡ nil
unnil nil ρ e = refl
unnil (cons g gs) ρ e = let z : ◌≡◌ {A = ℕ} 0 1 = cc in absurd (omega arith)

pub callable_eval : {V W : Type 0} (t : Term V) (ρ : V → Term W) → Callable t → Callable (eval t ρ)
callable_eval (var v) ρ h = absurd h
callable_eval (node f ts) ρ h = tt

pub callables_join : {V W : Type 0} (ts : Terms V) (us : Terms W) (ρ : V → Term W) → Callables ts → Callables us → Callables (join (evals ts ρ) us)
callables_join nil us ρ h k = k
callables_join (cons t ts) us ρ h k = (callable_eval t ρ h.0, callables_join ts us ρ h.1 k)

pub same_name_self : (f : Name) → same_name f f ≡ true
same_name_self [] = refl
same_name_self (x ∷ f) = and_from (eqb x x) (same_name f f) (eq-eqb x x refl) (same_name_self f)

pub same_name_true : (f g : Name) → same_name f g ≡ true → f ≡ g
same_name_true [] [] e = refl
same_name_true [] (y ∷ g) e = cc
same_name_true (x ∷ f) [] e = cc
same_name_true (x ∷ f) (y ∷ g) e =
    let k = and_parts (eqb x y) (same_name f g) e in
    ap₂ (λ (n : ℕ) (ns : Name). n ∷ ns) (eqb-true x y k.0) (same_name_true f g k.1)

-- terms with a common instance have one symbol
pub meet : {U V W : Type 0} (g : Term U) (h : Term V) (ρ : U → Term W) (τ : V → Term W) → Callable g → Callable h → eval g ρ ≡ eval h τ → same_symbol g h ≡ true
meet (var u) h ρ τ a b e = absurd a
meet (node f ts) (var v) ρ τ a b e = absurd b
meet (node f ts) (node g us) ρ τ a b e =
    let k : f ≡ g = cc in
    let l : evals ts ρ ≡ evals us τ = cc in
    and_from (same_name f g) (eqb (count ts) (count us)) (subst (λ x. same_name f x ≡ true) k (same_name_self f))
    (eq-eqb (count ts) (count us) (sym (count_evals ts ρ) ∙ ap count l ∙ count_evals us τ))

-- a head with some goal's symbol is callable
pub headed : {U V : Type 0} (g : Term U) (h : Term V) → same_symbol g h ≡ true → (ts : Terms V) × (h ≡ node (head_name h) ts)
headed (var u) h e = let z : ◌≡◌ {A = ℕ} 0 1 = cc in absurd (omega arith)
headed (node f ts) (var v) e = let z : ◌≡◌ {A = ℕ} 0 1 = cc in absurd (omega arith)
headed (node f ts) (node g us) e = (us, refl)
