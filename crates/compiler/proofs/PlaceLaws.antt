-- What the slots give each place is the instance of the term there.
use Rattle.std.proofs.Common.{◌≡◌, ℕ, zero, suc, ◌+◌, ◌<◌, ◌≤◌, sym, refl, ap, ◌∙◌, ap₂, arith}
use Rattle.horn.specs.Terms.{Terms, node, cons, eval, evals}
use Rattle.symbol_table.specs.Symbols.{Signature, name_at}
use Rattle.compiler.specs.Terms.{along}
use Rattle.code.specs.Meaning.{Terming}
use Rattle.compiler.specs.Places.{Plan, shaped, worth, Built, Run, Ends, value, values, wide, BuiltAt}
use Rattle.compiler.specs.declared.items.Item.{Item}
use Rattle.compiler.specs.declared.items.Item.TheVariants.{Atom, Structure, Variable}

pub along_eval : (e : ℕ → ℕ) (t : Terming) (τ : Terming) (n j : ℕ) → evals (along e t n j) τ ≡ along e (λ k. eval (t k) τ) n j
along_eval e t τ zero j = refl
along_eval e t τ (suc n) j = ap (cons (eval (t j) τ)) (along_eval e t τ n (e j))

module _ {p : Plan} {lo : ℕ} (ends : Ends p lo) where
  pub run_up : (n j m : ℕ) → lo ≤ j → Run p.after p.size n j m → j ≤ m
  run_up zero j m low r = omega arith
  run_up (suc n) j m low r = let f = ends.forth j low r.0 in omega (arith, run_up n (p.after j) m (omega arith) r.1)

  pub run_within : (n j m : ℕ) → lo ≤ j → Run p.after p.size n j m → j ≤ p.size → m ≤ p.size
  run_within zero j m low r le = omega arith
  run_within (suc n) j m low r le = let f = ends.forth j low r.0 in run_within n (p.after j) m (omega arith) r.1 (ends.within j low r.0)

  pub along_same : (σ σ' : Terming) (n j m : ℕ) → lo ≤ j → Run p.after p.size n j m → ((k : ℕ) → j ≤ k → k < m → σ k ≡ σ' k) → along p.after σ n j ≡ along p.after σ' n j
  along_same σ σ' zero j m low r h = refl
  along_same σ σ' (suc n) j m low r h =
      let f = ends.forth j low r.0 in
      let up = run_up n (p.after j) m (omega arith) r.1 in
      ap₂ cons (h j (omega arith) (omega arith)) (along_same σ σ' n (p.after j) m (omega arith) r.1 (λ k at hi. h k (omega arith) hi))

one_way : (sig : Signature) (k : Item) (y : ℕ) (ρ : Terming) (ts us : Terms ℕ) → Built sig k y ρ ts → ts ≡ evals us ρ → worth sig k y ρ ≡ eval (shaped sig k us) ρ
one_way sig (Atom c) y ρ ts us b q = refl
one_way sig (Structure f) y ρ ts us b q = b ∙ ap (node (name_at sig f)) q
one_way sig (Variable v) y ρ ts us b q = refl

other_way : (sig : Signature) (k : Item) (y : ℕ) (ρ τ : Terming) (ts us : Terms ℕ) → worth sig k y ρ ≡ eval (shaped sig k us) τ → evals us τ ≡ ts → Built sig k y ρ ts
other_way sig (Atom c) y ρ τ ts us w q = tt
other_way sig (Structure f) y ρ τ ts us w q = w ∙ ap (node (name_at sig f)) q
other_way sig (Variable v) y ρ τ ts us w q = tt

-- t is the term at each place
abbrev pub Spelled : Plan → Terming → Type 0
Spelled p t = (i : ℕ) → i < p.size → t i ≡ shaped p.sig (p.tok i) (along p.after t (wide p i) (suc i))

module _ {p : Plan} (ends : Ends p 0) (t : Terming) (spelled : Spelled p t) where
  settled_from : (ρ : Terming) → ((i : ℕ) → i < p.size → BuiltAt p ρ i) → (d i : ℕ) → p.size ≤ i + d → i < p.size → value p ρ i ≡ eval (t i) ρ
  settled_from ρ built zero i far lt = absurd (omega arith)
  settled_from ρ built (suc d) i far lt =
      one_way p.sig (p.tok i) (p.slot i) ρ _ (along p.after t (wide p i) (suc i)) (built i lt)
      (along_same ends _ _ (wide p i) (suc i) (p.after i) (omega arith) (ends.runs i (omega arith) lt) (λ k lo hi. settled_from ρ built d k (omega arith) (omega (arith, ends.within i (omega arith) lt)))
      ∙ sym (along_eval p.after t ρ (wide p i) (suc i)))
      ∙ ap (λ x. eval x ρ) (sym (spelled i lt))

  -- slots that give each structure its arguments give each place the instance of its term
  pub settled : (ρ : Terming) → ((i : ℕ) → i < p.size → BuiltAt p ρ i) → (i : ℕ) → i < p.size → value p ρ i ≡ eval (t i) ρ
  settled ρ built i lt = settled_from ρ built p.size i (omega arith) lt

  pub building : (ρ τ : Terming) → ((i : ℕ) → i < p.size → value p ρ i ≡ eval (t i) τ) → (i : ℕ) → i < p.size → BuiltAt p ρ i
  building ρ τ h i lt =
      other_way p.sig (p.tok i) (p.slot i) ρ τ _ (along p.after t (wide p i) (suc i)) (h i lt ∙ ap (λ x. eval x τ) (spelled i lt))
      (along_eval p.after t τ (wide p i) (suc i)
      ∙ sym (along_same ends _ _ (wide p i) (suc i) (p.after i) (omega arith) (ends.runs i (omega arith) lt) (λ k lo hi. h k (omega (arith, ends.within i (omega arith) lt)))))

  -- a run of terms, in slots that give each place the instance of its term
  pub run_values : (ρ τ : Terming) → ((i : ℕ) → i < p.size → value p ρ i ≡ eval (t i) τ) → (n j m : ℕ) → Run p.after p.size n j m → m ≤ p.size
      → values p ρ n j ≡ evals (along p.after t n j) τ
  run_values ρ τ h n j m r le = along_same ends _ _ n j m (omega arith) r (λ k lo hi. h k (omega arith)) ∙ sym (along_eval p.after t τ n j)
