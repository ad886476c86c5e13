-- A cell for an operand, and a cell that is made equal to one.
use Rattle.std.proofs.Common.{◌≡◌, ℕ, zero, suc, ◌<◌, List, [], ◌∷◌, ◌++◌, length, get_or, set, Some, None, Option, sym, refl, ap, ◌∙◌, subst, ap₂, arith}
use Rattle.std.proofs.lemmas.List.{length_push}
use Rattle.horn.specs.Terms.{Terms, node, nil}
use Rattle.heap.specs.Heaps.{Heap, cell}
use Rattle.heap.specs.Solutions.{Valuation, Sol, Says, Root, Apart, span}
use Rattle.heap.specs.declared.cell.Cell.TheVariants.{Unbound, Ref, Node}
use Rattle.matching.specs.Unifies.{Unified}
use Rattle.code.specs.declared.instructions.Operand.{Operand}
use Rattle.code.specs.declared.instructions.Operand.TheVariants.{Fresh, Known, Constant}
use Rattle.code.specs.Meaning.{Symbols, Terming}
use Rattle.entering.specs.Goals.{Names}
use Rattle.entering.specs.Entries.{Same}
use Rattle.entering.specs.Turns.{Slots, Fits, Claim, Nothing, Stands, Turned, Unmet, Takes, Taken, Is, slot_cell, slot_set, celled, slotted}
use Rattle.entering.proofs.TurnLaws.{typed_tells, turned_map, turned_then, unmet_then, turned_still, fits_same, extend, stands_push, turned_push, fits_set, fits_unset, inside_set}

pub takes_taken : (table : List ℕ) (m : ℕ) (o : Operand) → Takes table m o → Taken m o
takes_taken table m (Fresh y) t = t
takes_taken table m (Known y) t = t
takes_taken table m (Constant c) t = tt

-- two cells are unified
pub turned_unified : (table : List ℕ) (H : Heap) (S : Slots) → Stands table H S → (H' : Heap) (i j : ℕ) → length H' ≡ length H
    → ((k f n b : ℕ) → cell H' k ≡ Node f n b → cell H k ≡ Node f n b) → Unified H H' i j
    → Turned table H S (λ s ρ σ. ρ i ≡ ρ j) (λ s ρ σ. ρ i ≡ ρ j) H' S
turned_unified table H S st H' i j long nodes u = record {
  stands = record { closed = u.closed; typed = λ k f n b e. st.typed k f n b (nodes k f n b e); inside = λ y k e. let l = st.inside y k e in omega arith };
  longer = omega arith;
  into = λ s n ρ σ h f. let r = u.into s.name ρ h in (r.0, f, r.1);
  back = λ s n ρ σ h f e. (ρ, (λ k l. refl), u.back s.name ρ h e, f);
}

module _ (table : List ℕ) (H : Heap) (S : Slots) (st : Stands table H S) where
  -- a new unbound cell for a slot
  turned_fresh : (y : ℕ) → y < length S → get_or S y None ≡ None → Turned table H S Nothing (λ s ρ σ. ρ (length H) ≡ σ y) (H ++ Unbound ∷ []) (set S y (Some (length H)))
  turned_fresh y lt free =
      let w = stands_push table H S Unbound st (λ j e. absurd e) (λ f n b e. let z : ◌≡◌ {A = ℕ} 0 1 = cc in absurd (omega arith)) in
      let p = turned_push table H S Unbound st (λ j e. absurd e) (λ f n b e. let z : ◌≡◌ {A = ℕ} 0 1 = cc in absurd (omega arith)) in
      record {
        stands = record { closed = w.closed; typed = w.typed; inside = inside_set S y (length H) lt free (length (H ++ Unbound ∷ [])) (omega (arith, length_push H Unbound)) w.inside };
        longer = p.longer;
        into = λ s n ρ σ h f.
            let g = fits_unset S y (length H) lt free ρ σ f in
            ((p.into s n ρ σ h g.0).0, g.0, sym g.1);
        back = λ s n ρ σ h f q.
            let r = extend table H S Unbound st (λ j e. absurd e) s ρ (σ y) h in
            (r.0, r.1, r.2, fits_set S y (length H) lt free r.0 σ (fits_same S (length H) ρ r.0 σ st.inside r.1 f) (sym r.3));
      }

  made_slot : (y : ℕ) → y < length S → (x : Option ℕ) → get_or S y None ≡ x → Turned table H S Nothing (λ s ρ σ. ρ (length H) ≡ σ y) (H ++ slot_cell x ∷ []) (slot_set x S y (length H))
  made_slot y lt None e = turned_fresh y lt e
  made_slot y lt (Some i) e =
      turned_map table Nothing (λ s ρ σ. ρ (length H) ≡ ρ i) Nothing (λ s ρ σ. ρ (length H) ≡ σ y)
      (turned_push table H S (Ref i) st (λ j q. let l = st.inside y i e in omega arith) (λ f n b q. let z : ◌≡◌ {A = ℕ} 0 1 = cc in absurd (omega arith)))
      (λ s n ρ σ h f q. tt) (λ s n ρ σ h f q. q ∙ sym (f y i e))

  -- a cell is made for an operand
  pub turned_made : (o : Operand) → Takes table (length S) o → Turned table H S Nothing (Is o (length H)) (H ++ celled S o ∷ []) (slotted S o (length H))
  turned_made (Fresh y) t = made_slot y t (get_or S y None) refl
  turned_made (Known y) t = made_slot y t (get_or S y None) refl
  turned_made (Constant c) t =
      turned_push table H S (Node c 0 0) st (λ j q. absurd (omega (arith, q.0, q.1)))
      (λ f n b q. let ef : c ≡ f = cc in let en : ◌≡◌ {A = ℕ} 0 n = cc in (omega (arith, t.0), ap (λ x. get_or table x 0) (sym ef) ∙ t.1 ∙ en))

  pub unmet_apart : (i j : ℕ) → Apart H i j → Unmet table H S (λ s ρ σ. ρ i ≡ ρ j)
  unmet_apart i j a s n ρ σ h f e = a s.name ρ (typed_tells s table H n st.typed) h e

  -- the cell i and a slot y that has the cell j
  module _ (y i j : ℕ) (at : get_or S y None ≡ Some j) where
    pub got_known : (H' : Heap) → length H' ≡ length H → ((k f n b : ℕ) → cell H' k ≡ Node f n b → cell H k ≡ Node f n b) → Unified H H' i j
        → Turned table H S (λ s ρ σ. ρ i ≡ σ y) (λ s ρ σ. ρ i ≡ σ y) H' S
    got_known H' long nodes u =
        turned_map table (λ s ρ σ. ρ i ≡ ρ j) (λ s ρ σ. ρ i ≡ ρ j) (λ s ρ σ. ρ i ≡ σ y) (λ s ρ σ. ρ i ≡ σ y) (turned_unified table H S st H' i j long nodes u)
        (λ s n ρ σ h f e. e ∙ f y j at) (λ s n ρ σ h f e. e ∙ sym (f y j at))

    pub unmet_known : Apart H i j → Unmet table H S (λ s ρ σ. ρ i ≡ σ y)
    unmet_known a s n ρ σ h f e = unmet_apart i j a s n ρ σ h f (e ∙ f y j at)

  -- the cell i goes to a slot that has none
  pub got_fresh : (y i : ℕ) → i < length H → y < length S → get_or S y None ≡ None → Turned table H S (λ s ρ σ. ρ i ≡ σ y) (λ s ρ σ. ρ i ≡ σ y) H (set S y (Some i))
  got_fresh y i l lt free = record {
    stands = record { closed = st.closed; typed = st.typed; inside = inside_set S y i lt free (length H) l st.inside };
    longer = omega arith;
    into = λ s n ρ σ h f. let g = fits_unset S y i lt free ρ σ f in (h, g.0, sym g.1);
    back = λ s n ρ σ h f e. (ρ, (λ k l. refl), h, fits_set S y i lt free ρ σ f (sym e));
  }

  -- the root r of the cell i is a structure
  module _ (i r g m b : ℕ) (root : Root H i r) (at : cell H r ≡ Node g m b) where
    pub root_term : (s : Symbols) (ρ : Valuation) → Sol s.name H ρ → ρ i ≡ node (s.name g) (span ρ b m)
    root_term s ρ h = root.same s.name ρ h ∙ subst (λ x. Says s.name x r ρ) at (h r)

    -- one of another symbol is asked for
    pub unmet_clash : (f k : ℕ) (P : Claim) (us : Symbols → Terming → Terms ℕ) → f < length table → get_or table f 0 ≡ k → (g ≡ f → m ≡ k → ⊥)
        → ((s : Symbols) (ρ : Valuation) (σ : Terming) → span ρ b m ≡ us s σ → m ≡ k)
        → ((s : Symbols) (ρ : Valuation) (σ : Terming) → Fits S ρ σ → P s ρ σ → ρ i ≡ node (s.name f) (us s σ)) → Unmet table H S P
    unmet_clash f k P us known size ne count is s n ρ σ h ft p =
        let here = root_term s ρ h in
        let there = is s ρ σ ft p in
        let names : s.name g ≡ s.name f = cc in
        let rows : span ρ b m ≡ us s σ = cc in
        let em = count s ρ σ rows in
        let t = st.typed r g m b at in
        ne (n.apart g f t.0 known (t.1 ∙ em ∙ sym size) names) em

    pub got_constant : (c : ℕ) → g ≡ c → m ≡ 0 → Turned table H S (Is (Constant c) i) (Is (Constant c) i) H S
    got_constant c eg em = turned_still table H S (Is (Constant c) i) (Is (Constant c) i) st
        (λ s n ρ σ h f. root_term s ρ h ∙ ap₂ (λ x k. node (s.name x) (span ρ b k)) eg em)

    pub unmet_constant : (c : ℕ) → Takes table (length S) (Constant c) → (g ≡ c → m ≡ 0 → ⊥) → Unmet table H S (Is (Constant c) i)
    unmet_constant c takes ne = unmet_clash c 0 (Is (Constant c) i) (λ s σ. nil) takes.0 takes.1 ne (λ s ρ σ e. none ρ b m e) (λ s ρ σ f e. e)
      where
        none : (ρ : Valuation) (b m : ℕ) → span ρ b m ≡ nil → m ≡ 0
        none ρ b zero e = refl
        none ρ b (suc m) e = cc

  -- it is unbound: the constant is made, and then unified
  module _ (c i : ℕ) (takes : Takes table (length S) (Constant c)) (lt : i < length H) where
    bind_carry : (s : Symbols) → Names s table → (ρ τ : Valuation) (σ : Terming) → Same (length H) ρ τ → Sol s.name (H ++ Node c 0 0 ∷ []) τ → Fits S τ σ
        → τ (length H) ≡ node (s.name c) nil → ρ i ≡ node (s.name c) nil → τ i ≡ τ (length H)
    bind_carry s n ρ τ σ same h f e d = sym (same i lt) ∙ d ∙ sym e

    pub bound_constant : (H' : Heap) → length H' ≡ length (H ++ Node c 0 0 ∷ []) → ((k f n b : ℕ) → cell H' k ≡ Node f n b → cell (H ++ Node c 0 0 ∷ []) k ≡ Node f n b)
        → Unified (H ++ Node c 0 0 ∷ []) H' i (length H) → Turned table H S (Is (Constant c) i) (Is (Constant c) i) H' S
    bound_constant H' long nodes u =
        let first = turned_made (Constant c) takes in
        turned_then table Nothing (Is (Constant c) (length H)) (λ s ρ σ. ρ i ≡ ρ (length H)) (Is (Constant c) i) first (λ s n ρ σ d. tt) bind_carry
        (λ s ρ σ. ρ i ≡ ρ (length H)) (Is (Constant c) i) (turned_unified table (H ++ Node c 0 0 ∷ []) S first.stands H' i (length H) long nodes u) (λ s n ρ σ h f e d. d ∙ e)

    pub unbound_constant : Apart (H ++ Node c 0 0 ∷ []) i (length H) → Unmet table H S (Is (Constant c) i)
    unbound_constant a =
        let first = turned_made (Constant c) takes in
        unmet_then table Nothing (Is (Constant c) (length H)) (λ s ρ σ. ρ i ≡ ρ (length H)) (Is (Constant c) i) first (λ s n ρ σ d. tt) bind_carry
        (λ s n ρ σ h f e. a s.name ρ (typed_tells s table (H ++ Node c 0 0 ∷ []) n first.stands.typed) h e)
