-- Terms whose symbols a field can spell, and what takes the others out.
use Rattle.std.proofs.Common.{◌≡◌, ℕ, zero, suc, Bool, true, false, cond, ◌&&◌, leb, sym, refl, ap, ◌∙◌, subst, ap₂, arith}
use Rattle.std.proofs.lemmas.Bool.{and_from, and_parts, cond-true, le-leb}
use Rattle.horn.specs.Terms.{Name, Term, Terms, var, node, nil, cons, count, join, eval, evals}
use Rattle.horn.specs.Clauses.{Written}
use Rattle.horn.specs.Notation.{word_for}
use Rattle.horn.proofs.TermLaws.{count_evals}
use Rattle.lines.specs.Limits.{arity_limit}
use Rattle.lines.specs.Words.{is_name, GoodWord}
use Rattle.lines.specs.Grammar.{Good, Goods}

-- f with n arguments is a symbol that a field can spell
abbrev pub spellable : Name → ℕ → Bool
spellable f n = is_name f && leb n arity_limit

pub spellable_good : (f : Name) (n : ℕ) → spellable f n ≡ true → GoodWord (word_for f n)
spellable_good f zero h = (and_parts (is_name f) (leb 0 arity_limit) h).0
spellable_good f (suc n) h =
    let k = and_parts (is_name f) (leb (suc n) arity_limit) h in
    (k.0, (le-leb 1 (suc n) (omega arith), k.1))

pub good_spellable : (f : Name) (n : ℕ) → GoodWord (word_for f n) → spellable f n ≡ true
good_spellable f zero h = and_from (is_name f) (leb 0 arity_limit) h refl
good_spellable f (suc n) h = and_from (is_name f) (leb (suc n) arity_limit) h.0 h.1.1

-- all symbols of a term, or of several, can be spelt
abbrev mutual
  pub Sound : {V : Type 0} → Term V → Type 0
  Sound (var v) = Unit {0}
  Sound (node f ts) = (spellable f (count ts) ≡ true) × Sounds ts

  pub Sounds : {V : Type 0} → Terms V → Type 0
  Sounds nil = Unit {0}
  Sounds (cons t ts) = Sound t × Sounds ts

mutual
  pub good_sound : (t : Term Name) → Good t → Sound t
  good_sound (var v) h = tt
  good_sound (node f ts) h = (good_spellable f (count ts) h.0, goods_sound ts h.1)

  pub goods_sound : (ts : Written) → Goods ts → Sounds ts
  goods_sound nil h = tt
  goods_sound (cons t ts) h = (good_sound t h.0, goods_sound ts h.1)

-- the symbols of a term are among those of its instances
mutual
  pub sound_off : {V W : Type 0} (t : Term V) (ρ : V → Term W) → Sound (eval t ρ) → Sound t
  sound_off (var v) ρ h = tt
  sound_off (node f ts) ρ h = (subst (λ n. spellable f n ≡ true) (count_evals ts ρ) h.0, sounds_off ts ρ h.1)

  pub sounds_off : {V W : Type 0} (ts : Terms V) (ρ : V → Term W) → Sounds (evals ts ρ) → Sounds ts
  sounds_off nil ρ h = tt
  sounds_off (cons t ts) ρ h = (sound_off t ρ h.0, sounds_off ts ρ h.1)

-- an instance has the symbols of the term and of what stands for its variables
mutual
  pub sound_eval : {V W : Type 0} (t : Term V) (ρ : V → Term W) → Sound t → ((v : V) → Sound (ρ v)) → Sound (eval t ρ)
  sound_eval (var v) ρ h k = k v
  sound_eval (node f ts) ρ h k = (subst (λ n. spellable f n ≡ true) (sym (count_evals ts ρ)) h.0, sounds_eval ts ρ h.1 k)

  pub sounds_eval : {V W : Type 0} (ts : Terms V) (ρ : V → Term W) → Sounds ts → ((v : V) → Sound (ρ v)) → Sounds (evals ts ρ)
  sounds_eval nil ρ h k = tt
  sounds_eval (cons t ts) ρ h k = (sound_eval t ρ h.0 k, sounds_eval ts ρ h.1 k)

pub sounds_join : {V : Type 0} (ts us : Terms V) → Sounds ts → Sounds us → Sounds (join ts us)
sounds_join nil us h k = k
sounds_join (cons t ts) us h k = (h.0, sounds_join ts us h.1 k)

-- a variable in the stead of each part whose symbol cannot be spelt
abbrev mutual
  pub clean : Term ℕ → Term ℕ
  clean (var x) = var x
  clean (node f ts) = cond (spellable f (count ts)) (node f (cleans ts)) (var 0)

  pub cleans : Terms ℕ → Terms ℕ
  cleans nil = nil
  cleans (cons t ts) = cons (clean t) (cleans ts)

count_cleans : (ts : Terms ℕ) → count (cleans ts) ≡ count ts
count_cleans nil = refl
count_cleans (cons t ts) = ap suc (count_cleans ts)

mutual
  pub sound_clean : (t : Term ℕ) → Sound (clean t)
  sound_clean (var x) = tt
  sound_clean (node f ts) = go (sounds_clean ts) (spellable f (count ts)) refl
    where
      go : Sounds (cleans ts) → (b : Bool) → spellable f (count ts) ≡ b → Sound (cond b (node f (cleans ts)) (var 0))
      go ih true e = (subst (λ n. spellable f n ≡ true) (sym (count_cleans ts)) e, ih)
      go ih false e = tt

  pub sounds_clean : (ts : Terms ℕ) → Sounds (cleans ts)
  sounds_clean nil = tt
  sounds_clean (cons t ts) = (sound_clean t, sounds_clean ts)

-- where the term's own symbols can be spelt, only what stands for its variables changes
mutual
  pub clean_eval : {V : Type 0} (t : Term V) (ρ : V → Term ℕ) → Sound t → clean (eval t ρ) ≡ eval t (λ v. clean (ρ v))
  clean_eval (var v) ρ h = refl
  clean_eval (node f ts) ρ h =
      cond-true (spellable f (count (evals ts ρ))) _ _ (subst (λ n. spellable f n ≡ true) (sym (count_evals ts ρ)) h.0)
      ∙ ap (node f) (cleans_eval ts ρ h.1)

  pub cleans_eval : {V : Type 0} (ts : Terms V) (ρ : V → Term ℕ) → Sounds ts → cleans (evals ts ρ) ≡ evals ts (λ v. clean (ρ v))
  cleans_eval nil ρ h = refl
  cleans_eval (cons t ts) ρ h = ap₂ cons (clean_eval t ρ h.0) (cleans_eval ts ρ h.1)
