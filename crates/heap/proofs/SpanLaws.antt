-- Laws of the terms of cells in a row, and of sizes.
use Rattle.std.proofs.Common.{◌≡◌, ℕ, zero, suc, ◌+◌, ◌<◌, ◌≤◌, refl, ap, ◌∙◌, ap₂, arith}
use native.Mathlib.Decide.{ℕ_discrete}
use Rattle.horn.specs.Terms.{Term, Terms, var, node, nil, cons, eval, evals}
use Rattle.heap.specs.Solutions.{Valuation, span}

-- how many names a term has
abbrev mutual
  pub size : Term ℕ → ℕ
  size (var n) = 0
  size (node f ts) = suc (sizes ts)

  pub sizes : Terms ℕ → ℕ
  sizes nil = 0
  sizes (cons t ts) = size t + sizes ts

pub span_eval : (ρ τ : Valuation) (i n : ℕ) → evals (span ρ i n) τ ≡ span (λ k. eval (ρ k) τ) i n
span_eval ρ τ i zero = refl
span_eval ρ τ i (suc n) = ap (cons (eval (ρ i) τ)) (span_eval ρ τ (suc i) n)

pub span_size : (ρ : Valuation) (i n k : ℕ) → i ≤ k → k < i + n → size (ρ k) ≤ sizes (span ρ i n)
span_size ρ i zero k lo hi = absurd (omega arith)
span_size ρ i (suc n) k lo hi =
    elim (ℕ_discrete i k) [
      | yes e ↦ omega (arith, ap (λ x. size (ρ x)) e)
      | no ne ↦ omega (arith, span_size ρ (suc i) n k (omega arith) (omega arith))
    ]

-- two rows that agree: the same number of places, and each place
pub span_len : (ρ τ : Valuation) (i j n m : ℕ) → span ρ i n ≡ span τ j m → n ≡ m
span_len ρ τ i j zero zero e = refl
span_len ρ τ i j zero (suc m) e = cc
span_len ρ τ i j (suc n) zero e = cc
span_len ρ τ i j (suc n) (suc m) e =
    let tails : span ρ (suc i) n ≡ span τ (suc j) m = cc in
    ap suc (span_len ρ τ (suc i) (suc j) n m tails)

pub span_at : (ρ τ : Valuation) (i j n : ℕ) → span ρ i n ≡ span τ j n → (k : ℕ) → k < n → ρ (i + k) ≡ τ (j + k)
span_at ρ τ i j zero e k h = absurd (omega arith)
span_at ρ τ i j (suc n) e zero h =
    let heads : ρ i ≡ τ j = cc in
    ap ρ (omega arith) ∙ heads ∙ ap τ (omega arith)
span_at ρ τ i j (suc n) e (suc k) h =
    let tails : span ρ (suc i) n ≡ span τ (suc j) n = cc in
    ap ρ (omega arith) ∙ span_at ρ τ (suc i) (suc j) n tails k (omega arith) ∙ ap τ (omega arith)

pub span_ext : (ρ τ : Valuation) (i j n : ℕ) → ((k : ℕ) → k < n → ρ (i + k) ≡ τ (j + k)) → span ρ i n ≡ span τ j n
span_ext ρ τ i j zero h = refl
span_ext ρ τ i j (suc n) h =
    ap₂ cons
    (ap ρ (omega arith) ∙ h 0 (omega arith) ∙ ap τ (omega arith))
    (span_ext ρ τ (suc i) (suc j) n (λ k l. ap ρ (omega arith) ∙ h (suc k) (omega arith) ∙ ap τ (omega arith)))
