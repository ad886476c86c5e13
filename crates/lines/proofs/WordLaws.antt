-- A word's bytes spell that word and no other.
use Rattle.std.proofs.Common.{◌≡◌, ℕ, suc, ◌+◌, ◌-◌, ◌≤◌, Bool, true, false, cond, ◌&&◌, ◌||◌, eqb, leb, List, [], ◌∷◌, ◌++◌, length, take, drop, Some, None, sym, refl, ap, ◌∙◌, subst, ap₂, ⊎_elim, arith}
use Rattle.std.proofs.lemmas.List.{append-nil, take_at, drop_at, take_all, drop_all, take-append-drop}
use Rattle.std.proofs.lemmas.Bool.{and_parts, and_from, or_cases, both_ways, ne_eqb, eqb-true, eq-eqb, leb-true, le-leb, cond-true, cond-false}
use Rattle.std.proofs.lemmas.Bool.Decides.{nat_tests}
use Rattle.horn.specs.Notation.{Word, name, structure, variable, field}
use Rattle.lines.specs.Limits.{name_limit}
use Rattle.lines.specs.Words.{lower, upper, plain, namely, every, is_name, is_variable, run, arity_of, plainly, shape, word_of, GoodWord}

-- c stands nowhere in the list
abbrev pub Free : ℕ → List ℕ → Type 0
Free c [] = Unit {0}
Free c (b ∷ bs) = (eqb b c ≡ false) × Free c bs

pub free_append : (c : ℕ) (f g : List ℕ) → Free c f → Free c g → Free c (f ++ g)
free_append c [] g p q = q
free_append c (b ∷ f) g p q = (p.0, free_append c f g p.1 q)

-- up to the first c
pub run_all : (c : ℕ) (f : List ℕ) → Free c f → run c f ≡ length f
run_all c [] h = refl
run_all c (b ∷ bs) h = cond-false (eqb b c) _ _ h.0 ∙ ap suc (run_all c bs h.1)

pub run_at : (c : ℕ) (f g : List ℕ) → Free c f → run c (f ++ c ∷ g) ≡ length f
run_at c [] g h = cond-true (eqb c c) _ _ (eq-eqb c c refl)
run_at c (b ∷ f) g h = cond-false (eqb b c) _ _ h.0 ∙ ap suc (run_at c f g h.1)

pub run_le : (c : ℕ) (f : List ℕ) → run c f ≤ length f
run_le c [] = omega arith
run_le c (b ∷ bs) = elim (eqb b c) as (λ t. cond t 0 (suc (run c bs)) ≤ suc (length bs)) [ true ↦ omega arith | false ↦ omega (arith, run_le c bs) ]

pub free_run : (c : ℕ) (f : List ℕ) → Free c (take (run c f) f)
free_run c [] = tt
free_run c (b ∷ bs) = go (free_run c bs) (eqb b c) refl
  where
    go : Free c (take (run c bs) bs) → (t : Bool) → eqb b c ≡ t → Free c (take (cond t 0 (suc (run c bs))) (b ∷ bs))
    go ih true e = tt
    go ih false e = (e, ih)

-- what stands from the first c on begins with it
abbrev pub Starts : ℕ → List ℕ → Type 0
Starts c [] = Unit {0}
Starts c (b ∷ bs) = b ≡ c

pub starts_run : (c : ℕ) (f : List ℕ) → Starts c (drop (run c f) f)
starts_run c [] = tt
starts_run c (b ∷ bs) = go (starts_run c bs) (eqb b c) refl
  where
    go : Starts c (drop (run c bs) bs) → (t : Bool) → eqb b c ≡ t → Starts c (drop (cond t 0 (suc (run c bs))) (b ∷ bs))
    go ih true e = eqb-true b c e
    go ih false e = ih

byte_free : (p : ℕ → Bool) (c b : ℕ) → p c ≡ false → p b ≡ true → eqb b c ≡ false
byte_free p c b h e = ne_eqb b c (λ q. both_ways (p c) h (subst (λ z. p z ≡ true) q e))

pub every_free : (p : ℕ → Bool) (c : ℕ) (f : List ℕ) → p c ≡ false → every p f ≡ true → Free c f
every_free p c [] h e = tt
every_free p c (b ∷ bs) h e = let q = and_parts (p b) (every p bs) e in (byte_free p c b h q.0, every_free p c bs h q.1)

pub name_free : (c : ℕ) (f : List ℕ) → lower c ≡ false → namely c ≡ false → is_name f ≡ true → Free c f
name_free c [] l n e = tt
name_free c (b ∷ bs) l n e =
    let q = and_parts (lower b) (leb (suc (length bs)) name_limit && every namely bs) e in
    let r = and_parts (leb (suc (length bs)) name_limit) (every namely bs) q.1 in
    (byte_free lower c b l q.0, every_free namely c bs n r.1)

pub variable_free : (c : ℕ) (f : List ℕ) → (upper c || eqb c 95) ≡ false → plain c ≡ false → is_variable f ≡ true → Free c f
variable_free c [] l n e = tt
variable_free c (b ∷ bs) l n e =
    let q = and_parts (upper b || eqb b 95) (leb (suc (length bs)) name_limit && every plain bs) e in
    let r = and_parts (leb (suc (length bs)) name_limit) (every plain bs) q.1 in
    (byte_free (λ x. upper x || eqb x 95) c b l q.0, every_free plain c bs n r.1)

-- a variable is no name
not_name : (v : List ℕ) → is_variable v ≡ true → is_name v ≡ false
not_name [] e = refl
not_name (b ∷ bs) e =
    let q = and_parts (upper b || eqb b 95) (leb (suc (length bs)) name_limit && every plain bs) e in
    let l : lower b ≡ false = ⊎_elim (λ u. grind (arith, nat_tests, and_parts (leb 65 b) (leb b 90) u)) (λ u. grind (arith, nat_tests, eqb-true b 95 u)) (or_cases (upper b) (eqb b 95) q.0) in
    ap (λ t. t && (leb (suc (length bs)) name_limit && every namely bs)) l

-- a field without a slash
whole : (f : List ℕ) → Free 47 f → word_of f ≡ plainly f
whole f h =
    let n = run_all 47 f h in
    let t : take (run 47 f) f ≡ f = ap (λ k. take k f) n ∙ take_all (length f) f (omega arith) in
    let d : drop (run 47 f) f ≡ [] = ap (λ k. drop k f) n ∙ drop_all (length f) f (omega arith) in
    ap₂ shape t d

cut : (f : List ℕ) (d : ℕ) → Free 47 f → word_of (f ++ 47 ∷ d ∷ []) ≡ arity_of f d
cut f d h =
    let n = run_at 47 f (d ∷ []) h in
    ap₂ shape (ap (λ k. take k (f ++ 47 ∷ d ∷ [])) n ∙ take_at f (47 ∷ d ∷ []) (length f) refl) (ap (λ k. drop k (f ++ 47 ∷ d ∷ [])) n ∙ drop_at f (47 ∷ d ∷ []) (length f) refl)

pub word_field : (x : Word) → GoodWord x → word_of (field x) ≡ Some x
word_field (name f) h = whole f (name_free 47 f refl refl h) ∙ cond-true (is_name f) _ _ h
word_field (structure f n) h =
    let low : leb 49 (48 + n) ≡ true = le-leb 49 (48 + n) (omega (arith, leb-true 1 n h.1.0)) in
    let high : leb (48 + n) 56 ≡ true = le-leb (48 + n) 56 (omega (arith, leb-true n 8 h.1.1)) in
    cut f (48 + n) (name_free 47 f refl refl h.0)
    ∙ cond-true (is_name f && (leb 49 (48 + n) && leb (48 + n) 56)) _ _ (and_from (is_name f) _ h.0 (and_from (leb 49 (48 + n)) _ low high))
    ∙ ap (λ k. Some (structure f k)) (omega arith)
word_field (variable v) h =
    whole v (variable_free 47 v refl refl h) ∙ cond-false (is_name v) _ _ (not_name v h) ∙ cond-true (is_variable v) _ _ h

pub word_commas : (x : Word) → GoodWord x → Free 44 (field x)
word_commas (name f) h = name_free 44 f refl refl h
word_commas (structure f n) h =
    free_append 44 f (47 ∷ (48 + n) ∷ []) (name_free 44 f refl refl h.0) (refl, (ne_eqb (48 + n) 44 (λ e. omega arith), tt))
word_commas (variable v) h = variable_free 44 v refl refl h

-- the other way: what a field spells
abbrev pub Spells : List ℕ → Word → Type 0
Spells f x = (field x ≡ f) × GoodWord x

spells_at : (f : List ℕ) (x y : Word) → Some y ≡ Some x → Spells f y → Spells f x
spells_at f x y e h = let q : y ≡ x = cc in subst (Spells f) q h

never : {A : Type 0} (x : Word) → None ≡ Some x → A
never x e = let z : ◌≡◌ {A = ℕ} 0 1 = cc in absurd (omega arith)

plain_back : (f : List ℕ) (x : Word) → plainly f ≡ Some x → Spells f x
plain_back f x = go (is_name f) (is_variable f) refl refl
  where
    go : (t u : Bool) → is_name f ≡ t → is_variable f ≡ u → cond t (Some (name f)) (cond u (Some (variable f)) None) ≡ Some x → Spells f x
    go true u et eu e = spells_at f x (name f) e (refl, et)
    go false true et eu e = spells_at f x (variable f) e (refl, eu)
    go false false et eu e = never x e

arity_back : (f : List ℕ) (d : ℕ) (x : Word) → arity_of f d ≡ Some x → Spells (f ++ 47 ∷ d ∷ []) x
arity_back f d x = go (is_name f && (leb 49 d && leb d 56)) refl
  where
    go : (t : Bool) → (is_name f && (leb 49 d && leb d 56)) ≡ t → cond t (Some (structure f (d - 48))) None ≡ Some x → Spells (f ++ 47 ∷ d ∷ []) x
    go true h e =
        let p = and_parts (is_name f) (leb 49 d && leb d 56) h in
        let q = and_parts (leb 49 d) (leb d 56) p.1 in
        let low = leb-true 49 d q.0 in
        let high = leb-true d 56 q.1 in
        let back : 48 + (d - 48) ≡ d = omega arith in
        spells_at (f ++ 47 ∷ d ∷ []) x (structure f (d - 48)) e
        (ap (λ k. f ++ 47 ∷ k ∷ []) back, (p.0, (le-leb 1 (d - 48) (omega arith), le-leb (d - 48) 8 (omega arith))))
    go false h e = never x e

shape_back : (f g : List ℕ) (x : Word) → Starts 47 g → shape f g ≡ Some x → Spells (f ++ g) x
shape_back f [] x h e = subst (λ k. Spells k x) (sym (append-nil f)) (plain_back f x e)
shape_back f (s ∷ []) x h e = never x e
shape_back f (s ∷ d ∷ []) x h e = subst (λ k. Spells (f ++ k ∷ d ∷ []) x) (sym h) (arity_back f d x e)
shape_back f (s ∷ d ∷ y ∷ ys) x h e = never x e

pub field_word : (f : List ℕ) (x : Word) → word_of f ≡ Some x → Spells f x
field_word f x e =
    subst (λ k. Spells k x) (take-append-drop (run 47 f) f) (shape_back (take (run 47 f) f) (drop (run 47 f) f) x (starts_run 47 f) e)
