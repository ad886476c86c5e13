-- The terms that a line spells, by their places; and code that says what its structures are carries its clause.
use Rattle.std.proofs.Common.{◌≡◌, ℕ, zero, suc, ◌+◌, ◌-◌, ◌<◌, ◌≤◌, cond, eqb, ltb, List, [], ◌∷◌, length, get_or, take, drop, sym, refl, ap, ◌∙◌, subst, ap₂, append-nil, add-one, arith, le-ltb, lt-ltb, eq-eqb, ne_eqb}
use native.Mathlib.Decide.{dec_lt}
use Rattle.std.proofs.lemmas.List.{drop_more, drop_all}
use Rattle.horn.specs.Terms.{Terms, var, node, nil, cons, eval, evals, count, front, back, join}
use Rattle.symbol_table.specs.Symbols.{Signature, name_at, arity_at, symbols_of}
use Rattle.compiler.specs.Terms.{first, along, hop}
use Rattle.code.specs.Meaning.{Terming, span}
use Rattle.code.specs.Meaning.{Says, goals}
use Rattle.compiler.specs.Reading.{reads, heads, Carries, arities}
use Rattle.compiler.specs.Places.{width, shaped, worth, Run, Ends, value, values}
use Rattle.compiler.specs.Emits.{Emits}
use Rattle.compiler.specs.Steps.{Told}
use Rattle.compiler.specs.Lines.{plan, structures, Numbered, Slotted, calls}
use Rattle.compiler.proofs.PlaceLaws.{Spelled, settled, building, run_values, run_within}
use Rattle.code.specs.declared.instructions.Instruction.{Instruction}
use Rattle.compiler.specs.declared.items.Item.{Item}
use Rattle.compiler.specs.declared.items.Item.TheVariants.{Atom, Structure, Variable}

reads_one : (sig : Signature) (k : Item) (ts : List Item)
    → reads sig (k ∷ ts) ≡ cons (shaped sig k (front (width sig k) (reads sig ts))) (back (width sig k) (reads sig ts))
reads_one sig (Atom c) ts = refl
reads_one sig (Structure f) ts = refl
reads_one sig (Variable v) ts = refl

module _ (sig : Signature) (ts : List Item) where
  -- the terms from the place i on
  abbrev pub stack : ℕ → Terms ℕ
  stack i = reads sig (drop i ts)

  abbrev pub here : Terming
  here i = first (stack i)

  pub stack_at : (i : ℕ) → i < length ts
      → stack i ≡ cons (shaped sig (get_or ts i (Atom 0)) (front (width sig (get_or ts i (Atom 0))) (stack (suc i)))) (back (width sig (get_or ts i (Atom 0))) (stack (suc i)))
  stack_at i lt = ap (reads sig) (drop_more ts i (Atom 0) lt ∙ ap (λ k. get_or ts i (Atom 0) ∷ drop k ts) (add-one i)) ∙ reads_one sig (get_or ts i (Atom 0)) (drop (suc i) ts)

module _ (sig : Signature) (ts : List Item) (es ss : List ℕ) (low : ℕ) (ends : Ends (plan sig ts es ss) low) where
  -- a run of n terms skips n terms, if each of its terms skips its arguments
  run_skips : (n j m : ℕ) → low ≤ j → Run (λ i. get_or es i 0) (length ts) n j m
      → ((i : ℕ) → j ≤ i → i < length ts → stack sig ts (get_or es i 0) ≡ back (width sig (get_or ts i (Atom 0))) (stack sig ts (suc i)))
      → stack sig ts m ≡ back n (stack sig ts j)
  run_skips zero j m l r h = ap (stack sig ts) (sym r)
  run_skips (suc n) j m l r h =
      let f = ends.forth j l r.0 in
      run_skips n (get_or es j 0) m (omega arith) r.1 (λ i lo lt. h i (omega arith) lt)
      ∙ ap (back n) (h j (omega arith) r.0) ∙ ap (back (suc n)) (sym (stack_at sig ts j r.0))

  skips_from : (d i : ℕ) → low ≤ i → length ts ≤ i + d → i < length ts → stack sig ts (get_or es i 0) ≡ back (width sig (get_or ts i (Atom 0))) (stack sig ts (suc i))
  skips_from zero i l far lt = absurd (omega arith)
  skips_from (suc d) i l far lt =
      run_skips (width sig (get_or ts i (Atom 0))) (suc i) (get_or es i 0) (omega arith) (ends.runs i l lt) (λ k lo hi. skips_from d k (omega arith) (omega arith) hi)

  pub skips : (n j m : ℕ) → low ≤ j → Run (λ i. get_or es i 0) (length ts) n j m → stack sig ts m ≡ back n (stack sig ts j)
  skips n j m l r = run_skips n j m l r (λ i lo lt. skips_from (length ts) i (omega arith) (omega arith) lt)

  -- the terms of a run are the first ones
  pub run_front : (n j m : ℕ) → low ≤ j → Run (λ i. get_or es i 0) (length ts) n j m → along (λ i. get_or es i 0) (here sig ts) n j ≡ front n (stack sig ts j)
  run_front zero j m l r = refl
  run_front (suc n) j m l r =
      let at = stack_at sig ts j r.0 in
      let f = ends.forth j l r.0 in
      ap₂ cons (ap first at) (run_front n (get_or es j 0) m (omega arith) r.1 ∙ ap (front n) (skips_from (length ts) j l (omega arith) r.0)) ∙ ap (front (suc n)) (sym at)

module _ (sig : Signature) (ts : List Item) (es ss : List ℕ) (ends : Ends (plan sig ts es ss) 0) where
  pub spelled : Spelled (plan sig ts es ss) (here sig ts)
  spelled i lt =
      ap first (stack_at sig ts i lt)
      ∙ ap (shaped sig (get_or ts i (Atom 0))) (sym (run_front sig ts es ss 0 ends (width sig (get_or ts i (Atom 0))) (suc i) (get_or es i 0) (omega arith) (ends.runs i (omega arith) lt)))

-- the term of the k-th structure
abbrev kth : Signature → List Item → Terming
kth sig [] k = var 0
kth sig (Atom c ∷ ts) k = kth sig ts k
kth sig (Variable v ∷ ts) k = kth sig ts k
kth sig (Structure f ∷ ts) zero = first (reads sig (Structure f ∷ ts))
kth sig (Structure f ∷ ts) (suc k) = kth sig ts k

-- slots for a valuation of the variables
abbrev pub slots : Signature → ℕ → List Item → Terming → Terming
slots sig vars ts τ y = cond (ltb y vars) (τ y) (eval (kth sig ts (y - vars)) τ)

-- what the slots give the place i: k is what is left of the line there, y the slot
slot_value : (sig : Signature) (vars : ℕ) (ρ τ : Terming) → ((v : ℕ) → v < vars → ρ v ≡ τ v)
    → (ts : List Item) → Numbered vars ts → (i y : ℕ) → i < length ts → ρ y ≡ eval (kth sig ts (structures (take i ts))) τ
    → worth sig (get_or ts i (Atom 0)) y ρ ≡ eval (first (reads sig (drop i ts))) τ
slot_value sig vars ρ τ low [] num i y lt q = absurd (omega arith)
slot_value sig vars ρ τ low (Atom c ∷ ts) num zero y lt q = refl
slot_value sig vars ρ τ low (Structure f ∷ ts) num zero y lt q = q
slot_value sig vars ρ τ low (Variable v ∷ ts) num zero y lt q = low v num.0
slot_value sig vars ρ τ low (Atom c ∷ ts) num (suc i) y lt q = slot_value sig vars ρ τ low ts num i y (omega arith) q
slot_value sig vars ρ τ low (Structure f ∷ ts) num (suc i) y lt q = slot_value sig vars ρ τ low ts num i y (omega arith) q
slot_value sig vars ρ τ low (Variable v ∷ ts) num (suc i) y lt q = slot_value sig vars ρ τ low ts num.1 i y (omega arith) q

module _ (sig : Signature) (vars : ℕ) (ts : List Item) (es ss : List ℕ) (num : Numbered vars ts) (slotted : Slotted vars ts ss) where
  pub slots_value : (τ : Terming) (i : ℕ) → i < length ts → value (plan sig ts es ss) (slots sig vars ts τ) i ≡ eval (here sig ts i) τ
  slots_value τ i lt =
      slot_value sig vars (slots sig vars ts τ) τ (λ v h. ap (λ b. cond b (τ v) (eval (kth sig ts (v - vars)) τ)) (lt-ltb v vars h)) ts num i (get_or ss i 0) lt
      (ap (slots sig vars ts τ) (slotted i lt)
      ∙ ap (λ b. cond b (τ (vars + structures (take i ts))) (eval (kth sig ts (vars + structures (take i ts) - vars)) τ)) (le-ltb (vars + structures (take i ts)) vars (omega arith))
      ∙ ap (λ k. eval (kth sig ts k) τ) (omega arith))

pub count_back : (n : ℕ) (ts : Terms ℕ) → count (back n ts) ≡ count ts - n
count_back zero ts = omega arith
count_back (suc n) nil = omega arith
count_back (suc n) (cons t ts) = count_back n ts ∙ omega arith

pub count_front : (n : ℕ) (ts : Terms ℕ) → n ≤ count ts → count (front n ts) ≡ n
count_front zero ts h = refl
count_front (suc n) nil h = absurd (omega arith)
count_front (suc n) (cons t ts) h = ap suc (count_front n ts (omega arith))

pub join_nil : (ts : Terms ℕ) → join ts nil ≡ ts
join_nil nil = refl
join_nil (cons t ts) = ap (cons t) (join_nil ts)

-- a place where terms are left stands in the line
pub stack_some : (sig : Signature) (ts : List Item) (j : ℕ) → 0 < count (stack sig ts j) → j < length ts
stack_some sig ts j h =
    elim (dec_lt j (length ts)) [
      | yes lt ↦ lt
      | no ge ↦ absurd (omega (arith, ap (λ l. count (reads sig l)) (drop_all j ts (omega arith))))
    ]

-- n terms stand where as many are left
module _ (sig : Signature) (ts : List Item) (es ss : List ℕ) (low : ℕ) (ends : Ends (plan sig ts es ss) low) where
  pub run_there : (n j : ℕ) → low ≤ j → n ≤ count (stack sig ts j) → Run (λ i. get_or es i 0) (length ts) n j (hop (λ i. get_or es i 0) n j)
  run_there zero j l h = refl
  run_there (suc n) j l h =
      let lt : j < length ts = stack_some sig ts j (omega arith) in
      let f = ends.forth j l lt in
      let left : count (stack sig ts (get_or es j 0)) ≡ count (stack sig ts j) - 1 =
      ap count (skips sig ts es ss low ends 1 j (get_or es j 0) l (lt, refl)) ∙ count_back 1 (stack sig ts j) in
      (lt, run_there n (get_or es j 0) (omega arith) (omega arith))

module _ (sig : Signature) (ts : List Item) (es ss : List ℕ) (ends : Ends (plan sig ts es ss) 0) where
  calls_eval : (ρ τ : Terming) → ((i : ℕ) → i < length ts → value (plan sig ts es ss) ρ i ≡ eval (here sig ts i) τ)
      → (ps : List ℕ) (j : ℕ) → j ≤ length ts → arities sig ps ≤ count (stack sig ts j) → calls (plan sig ts es ss) ρ ps j ≡ evals (heads sig ps (stack sig ts j)) τ
  calls_eval ρ τ same [] j le h = refl
  calls_eval ρ τ same (q ∷ ps) j le h =
      let m : ℕ = hop (λ i. get_or es i 0) (arity_at sig q) j in
      let r : Run (λ i. get_or es i 0) (length ts) (arity_at sig q) j m = run_there sig ts es ss 0 ends (arity_at sig q) j (omega arith) (omega arith) in
      let on : m ≤ length ts = run_within ends (arity_at sig q) j m (omega arith) r le in
      let next = skips sig ts es ss 0 ends (arity_at sig q) j m (omega arith) r in
      ap₂ (λ us vs. cons (node (name_at sig q) us) vs)
      (run_values ends (here sig ts) (spelled sig ts es ss ends) ρ τ same (arity_at sig q) j m r on ∙ ap (λ us. evals us τ) (run_front sig ts es ss 0 ends (arity_at sig q) j m (omega arith) r))
      (calls_eval ρ τ same ps m on (omega (arith, ap count next, count_back (arity_at sig q) (stack sig ts j))) ∙ ap (λ s. evals (heads sig ps s) τ) next)

count_evals : (ts : Terms ℕ) (τ : Terming) → count (evals ts τ) ≡ count ts
count_evals nil τ = refl
count_evals (cons t ts) τ = ap suc (count_evals ts τ)

-- terms as arguments from k on
abbrev spread : ℕ → Terms ℕ → Terming
spread k nil a = var 0
spread k (cons t ts) a = cond (eqb a k) t (spread (suc k) ts a)

span_same : (α β : Terming) (n k : ℕ) → ((a : ℕ) → k ≤ a → α a ≡ β a) → span α k n ≡ span β k n
span_same α β zero k h = refl
span_same α β (suc n) k h = ap₂ cons (h k (omega arith)) (span_same α β n (suc k) (λ a lo. h a (omega arith)))

span_spread : (ts : Terms ℕ) (k : ℕ) → span (spread k ts) k (count ts) ≡ ts
span_spread nil k = refl
span_spread (cons t ts) k =
    ap₂ cons (ap (λ b. cond b t (spread (suc k) ts k)) (eq-eqb k k refl))
    (span_same (spread k (cons t ts)) (spread (suc k) ts) (count ts) (suc k) (λ a lo. ap (λ b. cond b t (spread (suc k) ts a)) (ne_eqb a k (λ q. omega arith)))
    ∙ span_spread ts (suc k))

module _ (sig : Signature) (vars q : ℕ) (ps : List ℕ) (ts : List Item) (es ss : List ℕ) (ends : Ends (plan sig ts es ss) 0) (num : Numbered vars ts) (slotted : Slotted vars ts ss)
    (room : arity_at sig q + arities sig ps ≤ count (reads sig ts)) (code : List Instruction)
    (emits : Emits sig code (Told (plan sig ts es ss) q) (λ ρ. calls (plan sig ts es ss) ρ ps (hop (λ i. get_or es i 0) (arity_at sig q) 0))) where
  head_run : Run (λ i. get_or es i 0) (length ts) (arity_at sig q) 0 (hop (λ i. get_or es i 0) (arity_at sig q) 0)
  head_run = run_there sig ts es ss 0 ends (arity_at sig q) 0 (omega arith) (omega arith)

  head_within : hop (λ i. get_or es i 0) (arity_at sig q) 0 ≤ length ts
  head_within = run_within ends (arity_at sig q) 0 _ (omega arith) head_run (omega arith)

  module _ (ρ τ : Terming) (same : (i : ℕ) → i < length ts → value (plan sig ts es ss) ρ i ≡ eval (here sig ts i) τ) where
    head_eval : values (plan sig ts es ss) ρ (arity_at sig q) 0 ≡ evals (front (arity_at sig q) (reads sig ts)) τ
    head_eval = run_values ends (here sig ts) (spelled sig ts es ss ends) ρ τ same (arity_at sig q) 0 _ head_run head_within ∙ ap (λ us. evals us τ) (run_front sig ts es ss 0 ends (arity_at sig q) 0 _ (omega arith) head_run)

    body_eval : goals (symbols_of sig) code ρ var ≡ evals (heads sig ps (back (arity_at sig q) (reads sig ts))) τ
    body_eval =
        ap (λ l. goals (symbols_of sig) l ρ var) (sym (append-nil code)) ∙ emits.leaves ρ [] ∙ join_nil _
        ∙ calls_eval sig ts es ss ends ρ τ same ps _ head_within
        (omega (arith, ap count (skips sig ts es ss 0 ends (arity_at sig q) 0 _ (omega arith) head_run), count_back (arity_at sig q) (reads sig ts)))
        ∙ ap (λ s. evals (heads sig ps s) τ) (skips sig ts es ss 0 ends (arity_at sig q) 0 _ (omega arith) head_run)

  head_count : count (front (arity_at sig q) (reads sig ts)) ≡ arity_at sig q
  head_count = count_front (arity_at sig q) (reads sig ts) (omega arith)

  pub carries : Carries sig q ps ts code
  carries = record {
    into = λ us gs h.
        let α : Terming = h.0 in
        let ρ : Terming = h.1 in
        let told = (emits.into α ρ [] (subst (λ l. Says (symbols_of sig) l α ρ) (sym (append-nil code)) h.3.0)).0 in
        let same = settled ends (here sig ts) (spelled sig ts es ss ends) ρ told.1 in
        (ρ, sym (h.2 ∙ told.0 ∙ head_eval ρ ρ same), sym (h.3.1 ∙ body_eval ρ ρ same));
    back = λ us gs m.
        let τ : Terming = m.0 in
        let ρ : Terming = slots sig vars ts τ in
        let α : Terming = spread 1 us in
        let same = slots_value sig vars ts es ss num slotted τ in
        let whole : span α 1 (arity_at sig q) ≡ us = ap (span α 1) (sym head_count ∙ sym (count_evals (front (arity_at sig q) (reads sig ts)) τ) ∙ ap count m.1) ∙ span_spread us 1 in (
          α,
          ρ,
          sym whole,
          (
            subst (λ l. Says (symbols_of sig) l α ρ) (append-nil code)
                (emits.back α ρ [] (whole ∙ sym m.1 ∙ sym (head_eval ρ τ same), building ends (here sig ts) (spelled sig ts es ss ends) ρ τ same) tt),
            sym m.2 ∙ sym (body_eval ρ τ same),
          ),
        );
  }
