-- From the cells of a query to the empty path.
use Rattle.std.proofs.Common.{◌≡◌, ℕ, suc, ◌+◌, ◌<◌, List, [], ◌∷◌, length, get_or, Some, None, Option, sym, refl, ap, ◌∙◌, ap₂, arith}
use Rattle.horn.specs.Terms.{Term, var, cons}
use Rattle.horn.specs.Clauses.{Variable, blank}
use Rattle.heap.specs.Solutions.{Valuation, span}
use Rattle.code.specs.Meaning.{Terming}
use Rattle.entering.specs.Goals.{vals}
use Rattle.entering.specs.Paths.{terms, values}
use Rattle.posing.specs.Stored.{StartStores}

abbrev slot_term : Option ℕ → Valuation → Term ℕ
slot_term None ρ = var 0
slot_term (Some i) ρ = ρ i

terms_span : (ρ : Valuation) (σ : Terming) (Q : List ℕ) (i : ℕ) → ((y : ℕ) → y < length Q → ρ (get_or Q y 0) ≡ σ (i + y)) → terms ρ Q ≡ span σ i (length Q)
terms_span ρ σ [] i h = refl
terms_span ρ σ (x ∷ Q) i h = ap₂ cons (h 0 (omega arith) ∙ ap σ (omega arith)) (terms_span ρ σ Q (suc i) (λ y l. h (suc y) (omega arith) ∙ ap σ (omega arith)))

pub values_span : (τ : Variable → Term ℕ) (σ : Terming) (vs : List Variable) (i : ℕ) → ((y : ℕ) → y < length vs → τ (get_or vs y (blank 0)) ≡ σ (i + y)) → values τ vs ≡ span σ i (length vs)
values_span τ σ [] i h = refl
values_span τ σ (v ∷ vs) i h = ap₂ cons (h 0 (omega arith) ∙ ap σ (omega arith)) (values_span τ σ vs (suc i) (λ y l. h (suc y) (omega arith) ∙ ap σ (omega arith)))

pub start_stores : StartStores
start_stores s table names cs ps q vs H S Q G st sp at = record {
  into = λ ρ h.
      let σ : Terming = λ y. slot_term (get_or S y None) ρ in
      let t = sp.into σ in
      let goals = st.into s names ρ σ h (λ y i e. ap (λ o. slot_term o ρ) e) in
      let cells : terms ρ Q ≡ span σ 0 (length Q) = terms_span ρ σ Q 0 (λ y l.
      let e = at.at y (omega (arith, at.long)) in
      sym (ap (λ o. slot_term o ρ) e) ∙ ap (λ z. slot_term (get_or S z None) ρ) (zero_plus y)) in
      (vals s ρ G, (t.0, t.1 ∙ sym (cells ∙ ap (span σ 0) at.long), t.2 ∙ sym goals), refl);
  back = λ qs gs hs p l.
      let τ = p.0 in
      let σ : Terming = λ y. τ (get_or vs y (blank 0)) in
      let r = st.back s names σ in
      let goals = st.into s names r.0 σ r.1 r.2 in
      let cells : terms r.0 Q ≡ span σ 0 (length Q) = terms_span r.0 σ Q 0 (λ y l.
      sym (r.2 y (get_or Q y 0) (at.at y (omega (arith, at.long)))) ∙ ap σ (zero_plus y)) in
      let vars : values τ vs ≡ span σ 0 (length vs) = values_span τ σ vs 0 (λ y l. ap σ (zero_plus y)) in
      (r.0, r.1, cells ∙ ap (span σ 0) at.long ∙ sym vars ∙ p.1, goals ∙ sp.back τ ∙ p.2 ∙ l);
}
  where
    zero_plus : (y : ℕ) → y ≡ 0 + y
    zero_plus y = omega arith
