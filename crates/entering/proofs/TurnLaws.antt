-- Laws of cells and slots that change.
use Rattle.std.proofs.Common.{◌≡◌, ℕ, ◌+◌, ◌<◌, ◌≤◌, List, [], ◌∷◌, ◌++◌, length, get_or, set, Some, None, sym, refl, ap, ◌∙◌, arith, get_or-set_other, get_or-set_same}
use native.Mathlib.Decide.{dec_lt, ℕ_discrete}
use Rattle.std.proofs.lemmas.List.{length_push, get_or_append_left, get_or_push, get_or_past}
use Rattle.horn.specs.Terms.{Term, var, node}
use Rattle.heap.specs.Heaps.{Heap, cell, Names as Reached}
use Rattle.heap.specs.Solutions.{Valuation, Sol, Says, Tells, span}
use Rattle.heap.specs.declared.cell.Cell.{Cell}
use Rattle.heap.specs.declared.cell.Cell.TheVariants.{Unbound, Ref, Node}
use Rattle.heap.proofs.PushLaws.{closed_push, sol_push, sol_pop, sol_agree, from, from_below, from_above}
use Rattle.heap.proofs.SpanLaws.{span_ext}
use Rattle.code.specs.Meaning.{Symbols, Terming}
use Rattle.entering.specs.Goals.{Names, Typed}
use Rattle.entering.specs.Entries.{Same}
use Rattle.entering.specs.Turns.{Slots, Fits, Claim, Nothing, Stands, Turned, Unmet}

pub same_trans : {n m : ℕ} {ρ τ υ : Valuation} → n ≤ m → Same n ρ τ → Same m τ υ → Same n ρ υ
same_trans le p q k h = p k h ∙ q k (omega arith)

-- a naming of the table tells the symbols of the cells apart
pub typed_tells : (s : Symbols) (table : List ℕ) (H : Heap) → Names s table → Typed table H → Tells s.name H
typed_tells s table H names t i j f g n p q at_i at_j e =
    let a = t i f n p at_i in
    let b = t j g n q at_j in
    names.apart f g a.0 b.0 (a.1 ∙ sym b.1) e

module _ (table : List ℕ) where
  -- the same turn for more that is asked, and less that is kept
  pub turned_map : {H H' : Heap} {S S' : Slots} (P E Q F : Claim) → Turned table H S P E H' S'
      → ((s : Symbols) → Names s table → (ρ : Valuation) (σ : Terming) → Sol s.name H ρ → Fits S ρ σ → Q s ρ σ → P s ρ σ)
      → ((s : Symbols) → Names s table → (ρ : Valuation) (σ : Terming) → Sol s.name H' ρ → Fits S' ρ σ → E s ρ σ → F s ρ σ)
      → Turned table H S Q F H' S'
  turned_map P E Q F t ask keep = record {
    stands = t.stands;
    longer = t.longer;
    into = λ s n ρ σ h f. let r = t.into s n ρ σ h f in (r.0, r.1, keep s n ρ σ h f r.2);
    back = λ s n ρ σ h f q. t.back s n ρ σ h f (ask s n ρ σ h f q);
  }

  -- one turn after another
  module _ {H H₁ : Heap} {S S₁ : Slots} (P E Q R : Claim) (first : Turned table H S P E H₁ S₁)
      (ask : (s : Symbols) → Names s table → (ρ : Valuation) (σ : Terming) → R s ρ σ → P s ρ σ)
      (carry : (s : Symbols) → Names s table → (ρ τ : Valuation) (σ : Terming) → Same (length H) ρ τ → Sol s.name H₁ τ → Fits S₁ τ σ → E s τ σ → R s ρ σ → Q s τ σ) where
    pub turned_then : {H₂ : Heap} {S₂ : Slots} (F X : Claim) → Turned table H₁ S₁ Q F H₂ S₂
        → ((s : Symbols) → Names s table → (ρ : Valuation) (σ : Terming) → Sol s.name H₁ ρ → Fits S₁ ρ σ → E s ρ σ → F s ρ σ → X s ρ σ)
        → Turned table H S R X H₂ S₂
    turned_then F X second keep = record {
      stands = second.stands;
      longer = omega (arith, first.longer, second.longer);
      into = λ s n ρ σ h f.
          let r = second.into s n ρ σ h f in
          let w = first.into s n ρ σ r.0 r.1 in
          (w.0, w.1, keep s n ρ σ r.0 r.1 w.2 r.2);
      back = λ s n ρ σ h f d.
          let r = first.back s n ρ σ h f (ask s n ρ σ d) in
          let e = (first.into s n r.0 σ r.2 r.3).2 in
          let w = second.back s n r.0 σ r.2 r.3 (carry s n ρ r.0 σ r.1 r.2 r.3 e d) in
          (w.0, same_trans first.longer r.1 w.1, w.2, w.3);
    }

    pub unmet_then : Unmet table H₁ S₁ Q → Unmet table H S R
    unmet_then un s n ρ σ h f d =
        let r = first.back s n ρ σ h f (ask s n ρ σ d) in
        let e = (first.into s n r.0 σ r.2 r.3).2 in
        un s n r.0 σ r.2 r.3 (carry s n ρ r.0 σ r.1 r.2 r.3 e d)

  -- nothing changes: what is asked is kept by itself
  pub turned_still : (H : Heap) (S : Slots) (P E : Claim) → Stands table H S
      → ((s : Symbols) → Names s table → (ρ : Valuation) (σ : Terming) → Sol s.name H ρ → Fits S ρ σ → E s ρ σ) → Turned table H S P E H S
  turned_still H S P E st keep = record {
    stands = st;
    longer = omega arith;
    into = λ s n ρ σ h f. (h, f, keep s n ρ σ h f);
    back = λ s n ρ σ h f p. (ρ, (λ k l. refl), h, f);
  }

-- valuations that agree on the cells
pub fits_same : (S : Slots) (n : ℕ) (ρ τ : Valuation) (σ : Terming) → ((y i : ℕ) → get_or S y None ≡ Some i → i < n) → Same n ρ τ → Fits S ρ σ → Fits S τ σ
fits_same S n ρ τ σ inside same f y i e = f y i e ∙ same i (inside y i e)

-- the term of a new cell; t is that of a variable
abbrev pub new_term : Symbols → Cell → Valuation → Term ℕ → Term ℕ
new_term s Unbound ρ t = t
new_term s (Ref j) ρ t = ρ j
new_term s (Node f n b) ρ t = node (s.name f) (span ρ b n)

says_new : (s : Symbols) (c : Cell) (n : ℕ) (ρ τ : Valuation) (t : Term ℕ) → ((j : ℕ) → Reached c j → j < n) → Same n ρ τ → τ n ≡ new_term s c ρ t → Says s.name c n τ
says_new s Unbound n ρ τ t older same e = tt
says_new s (Ref j) n ρ τ t older same e = e ∙ same j (older j refl)
says_new s (Node f m b) n ρ τ t older same e = e ∙ ap (node (s.name f)) (span_ext ρ τ b b m (λ k h. same (b + k) (older (b + k) (omega arith, omega arith))))

-- one more cell
module _ (table : List ℕ) (H : Heap) (S : Slots) (c : Cell) (st : Stands table H S) (older : (j : ℕ) → Reached c j → j < length H) where
  -- every solution goes on to it, with any term if it is unbound
  pub extend : (s : Symbols) (ρ : Valuation) (t : Term ℕ) → Sol s.name H ρ → (τ : Valuation) × Same (length H) ρ τ × Sol s.name (H ++ c ∷ []) τ × (τ (length H) ≡ new_term s c ρ t)
  extend s ρ t h =
      let new = new_term s c ρ t in
      let τ : Valuation = from ρ (length H) (λ _. new) in
      let same : Same (length H) ρ τ = λ k l. sym (from_below ρ (length H) (λ _. new) k l) in
      let at : τ (length H) ≡ new = from_above ρ (length H) (λ _. new) (length H) (omega arith) in
      (τ, same, sol_push s.name H c τ (sol_agree s.name H ρ τ st.closed same h) (says_new s c (length H) ρ τ t older same at), at)

  module _ (kind : (f n b : ℕ) → c ≡ Node f n b → (f < length table) × (get_or table f 0 ≡ n)) where
    typed_push : Typed table (H ++ c ∷ [])
    typed_push i f n b e =
        elim (dec_lt i (length H)) [
          | yes lt ↦ st.typed i f n b (sym (get_or_append_left H (c ∷ []) Unbound i lt) ∙ e)
          | no ge ↦ elim (ℕ_discrete i (length H)) [
            | yes q ↦ kind f n b (sym (get_or_push H c Unbound i (sym q)) ∙ e)
            | no ne ↦ (let u : cell (H ++ c ∷ []) i ≡ Unbound = get_or_past (H ++ c ∷ []) i Unbound (omega (arith, length_push H c)) in let z : ◌≡◌ {A = ℕ} 0 1 = cc in absurd (omega arith))
          ]
        ]

    pub stands_push : Stands table (H ++ c ∷ []) S
    stands_push = record {
      closed = closed_push H c st.closed older;
      typed = typed_push;
      inside = λ y i e. let l = st.inside y i e in omega (arith, length_push H c);
    }

    pub turned_push : Turned table H S Nothing (λ s ρ σ. Says s.name c (length H) ρ) (H ++ c ∷ []) S
    turned_push = record {
      stands = stands_push;
      longer = omega (arith, length_push H c);
      into = λ s n ρ σ h f. let r = sol_pop s.name H c ρ h in (r.0, f, r.1);
      back = λ s n ρ σ h f p.
          let r = extend s ρ (var 0) h in
          (r.0, r.1, r.2, fits_same S (length H) ρ r.0 σ st.inside r.1 f);
    }

-- a slot takes a cell
module _ (S : Slots) (y i : ℕ) (lt : y < length S) (free : get_or S y None ≡ None) where
  pub fits_set : (ρ : Valuation) (σ : Terming) → Fits S ρ σ → σ y ≡ ρ i → Fits (set S y (Some i)) ρ σ
  fits_set ρ σ f e z j h =
      elim (ℕ_discrete z y) [
        | yes q ↦ (let at : get_or (set S y (Some i)) z None ≡ Some i = ap (λ w. get_or (set S y (Some i)) w None) q ∙ get_or-set_same S y (Some i) None lt in
            let same : i ≡ j = cc in ap σ q ∙ e ∙ ap ρ same)
        | no ne ↦ f z j (sym (get_or-set_other S y z (Some i) None ne) ∙ h)
      ]

  pub fits_unset : (ρ : Valuation) (σ : Terming) → Fits (set S y (Some i)) ρ σ → Fits S ρ σ × (σ y ≡ ρ i)
  fits_unset ρ σ f = (
    (λ z j h. elim (ℕ_discrete z y) [
      | yes q ↦ (let at : get_or S z None ≡ None = ap (λ w. get_or S w None) q ∙ free in let z : ◌≡◌ {A = ℕ} 0 1 = cc in absurd (omega arith))
      | no ne ↦ f z j (get_or-set_other S y z (Some i) None ne ∙ h)
    ]),
    f y i (get_or-set_same S y (Some i) None lt),
  )

  pub inside_set : (n : ℕ) → i < n → ((z j : ℕ) → get_or S z None ≡ Some j → j < n) → (z j : ℕ) → get_or (set S y (Some i)) z None ≡ Some j → j < n
  inside_set n l inside z j h =
      elim (ℕ_discrete z y) [
        | yes q ↦ (let at : get_or (set S y (Some i)) z None ≡ Some i = ap (λ w. get_or (set S y (Some i)) w None) q ∙ get_or-set_same S y (Some i) None lt in
            let same : i ≡ j = cc in omega arith)
        | no ne ↦ inside z j (sym (get_or-set_other S y z (Some i) None ne) ∙ h)
      ]
