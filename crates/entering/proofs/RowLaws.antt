-- Rows of cells, one for each operand, and structures.
use Rattle.std.proofs.Common.{◌≡◌, ℕ, ◌+◌, ◌<◌, List, [], ◌∷◌, ◌++◌, length, get_or, Some, None, sym, ap, ◌∙◌, ap₂, arith}
use borrow.Author.Count.{below_more}
use Rattle.horn.specs.Terms.{node}
use Rattle.heap.specs.Heaps.{Heap, cell}
use Rattle.heap.specs.Solutions.{Valuation, Sol, Root, span}
use Rattle.heap.specs.declared.cell.Cell.TheVariants.{Node}
use Rattle.heap.proofs.SpanLaws.{span_ext, span_at, span_len}
use Rattle.code.specs.declared.instructions.Operand.{Operand}
use Rattle.code.specs.declared.instructions.Operand.TheVariants.{Known}
use Rattle.code.specs.Meaning.{Symbols, Terming, given}
use Rattle.entering.specs.Turns.{Slots, Fits, Claim, Nothing, Stands, Turned, Unmet, Is, Rows, Structure, SlotIs}
use Rattle.entering.proofs.TurnLaws.{turned_then, unmet_then, turned_still, turned_push}
use Rattle.entering.proofs.OperandLaws.{root_term, unmet_clash}

pub rows_span : (b n : ℕ) (ρ τ : Valuation) → ((j : ℕ) → j < n → ρ (b + j) ≡ τ j) → span ρ b n ≡ span τ 0 n
rows_span b n ρ τ h = span_ext ρ τ b 0 n (λ k l. h k l ∙ ap τ (omega arith))

pub span_rows : (b n : ℕ) (ρ τ : Valuation) → span ρ b n ≡ span τ 0 n → (j : ℕ) → j < n → ρ (b + j) ≡ τ j
span_rows b n ρ τ e j l = span_at ρ τ b 0 n e j l ∙ ap τ (omega arith)

module _ (table : List ℕ) (op : ℕ → Operand) where
  pub rows_none : (H : Heap) (S : Slots) (b : ℕ) (P : Claim) → Stands table H S → Turned table H S P (Rows b op 0) H S
  rows_none H S b P st = turned_still table H S P (Rows b op 0) st (λ s n ρ σ h f j l. absurd (omega arith))

  -- cells are made for the operands
  pub rows_made : {H H₁ H₂ : Heap} {S S₁ S₂ : Slots} (k : ℕ) → length H₁ ≡ length H + k → Turned table H S Nothing (Rows (length H) op k) H₁ S₁
      → Turned table H₁ S₁ Nothing (Is (op k) (length H₁)) H₂ S₂ → Turned table H S Nothing (Rows (length H) op (k + 1)) H₂ S₂
  rows_made {H} {H₁} {H₂} {S} {S₁} {S₂} k long first second =
      turned_then table Nothing (Rows (length H) op k) Nothing Nothing first (λ s n ρ σ d. tt) (λ s n ρ τ σ same h f e d. tt)
      (Is (op k) (length H₁)) (Rows (length H) op (k + 1)) second
      (λ s n ρ σ h f e d. below_more (λ j. ρ (length H + j) ≡ given s (op j) σ) k e (ap ρ (sym long) ∙ d))

  -- cells that are there are met by the operands
  module _ {H H₁ : Heap} {S S₁ : Slots} (b k : ℕ) (within : b + k < length H) (first : Turned table H S (Rows b op k) (Rows b op k) H₁ S₁) where
    pub rows_read : {H₂ : Heap} {S₂ : Slots} → Turned table H₁ S₁ (Is (op k) (b + k)) (Is (op k) (b + k)) H₂ S₂ → Turned table H S (Rows b op (k + 1)) (Rows b op (k + 1)) H₂ S₂
    rows_read {H₂} {S₂} second =
        turned_then table (Rows b op k) (Rows b op k) (Is (op k) (b + k)) (Rows b op (k + 1)) first
        (λ s n ρ σ d j l. d j (omega arith)) (λ s n ρ τ σ same h f e d. sym (same (b + k) within) ∙ d k (omega arith))
        (Is (op k) (b + k)) (Rows b op (k + 1)) second
        (λ s n ρ σ h f e d. below_more (λ j. ρ (b + j) ≡ given s (op j) σ) k e d)

    pub rows_unread : (m : ℕ) → k < m → Unmet table H₁ S₁ (Is (op k) (b + k)) → Unmet table H S (Rows b op m)
    rows_unread m lt un =
        unmet_then table (Rows b op k) (Rows b op k) (Is (op k) (b + k)) (Rows b op m) first
        (λ s n ρ σ d j l. d j (omega arith)) (λ s n ρ τ σ same h f e d. sym (same (b + k) within) ∙ d k lt) un

  module _ (f n : ℕ) (known : f < length table) (size : get_or table f 0 ≡ n) where
    -- the structure of the cells that were made
    pub structure_made : {H H₁ : Heap} {S S₁ : Slots} → length H₁ ≡ length H + n → Turned table H S Nothing (Rows (length H) op n) H₁ S₁
        → Turned table H S Nothing (Structure f op n (length H₁)) (H₁ ++ Node f n (length H) ∷ []) S₁
    structure_made {H} {H₁} {S} {S₁} long first =
        turned_then table Nothing (Rows (length H) op n) Nothing Nothing first (λ s m ρ σ d. tt) (λ s m ρ τ σ same h g e d. tt)
        (λ s ρ σ. ρ (length H₁) ≡ node (s.name f) (span ρ (length H) n)) (Structure f op n (length H₁))
        (turned_push table H₁ S₁ (Node f n (length H)) first.stands (λ j q. omega (arith, q.1))
        (λ g m b q. let eg : f ≡ g = cc in let em : n ≡ m = cc in (omega arith, ap (λ x. get_or table x 0) (sym eg) ∙ size ∙ em)))
        (λ s m ρ σ h g e d. d ∙ ap (node (s.name f)) (rows_span (length H) n ρ (λ j. given s (op j) σ) e))

    -- it is what the slot y has
    module _ {H H₁ : Heap} {S S₁ : Slots} (y i : ℕ) (first : Turned table H S Nothing (Structure f op n i) H₁ S₁) where
      pub structure_written : {H₂ : Heap} {S₂ : Slots} → Turned table H₁ S₁ (Is (Known y) i) (Is (Known y) i) H₂ S₂ → Turned table H S (SlotIs y f op n) (SlotIs y f op n) H₂ S₂
      structure_written second =
          turned_then table Nothing (Structure f op n i) (Is (Known y) i) (SlotIs y f op n) first (λ s m ρ σ d. tt) (λ s m ρ τ σ same h g e d. e ∙ sym d)
          (Is (Known y) i) (SlotIs y f op n) second (λ s m ρ σ h g e d. sym d ∙ e)

      pub structure_unwritten : Unmet table H₁ S₁ (Is (Known y) i) → Unmet table H S (SlotIs y f op n)
      structure_unwritten un =
          unmet_then table Nothing (Structure f op n i) (Is (Known y) i) (SlotIs y f op n) first (λ s m ρ σ d. tt) (λ s m ρ τ σ same h g e d. e ∙ sym d) un

    -- or the slot y has a structure already
    module _ (H : Heap) (S : Slots) (st : Stands table H S) (y i r g m b : ℕ) (has : get_or S y None ≡ Some i) (root : Root H i r) (at : cell H r ≡ Node g m b) where
      slot_term_lem : (s : Symbols) (ρ : Valuation) (σ : Terming) → Sol s.name H ρ → Fits S ρ σ → σ y ≡ node (s.name g) (span ρ b m)
      slot_term_lem s ρ σ h ft = ft y i has ∙ root_term table H S st i r g m b root at s ρ h

      pub structure_clash : (g ≡ f → m ≡ n → ⊥) → Unmet table H S (SlotIs y f op n)
      structure_clash ne =
          unmet_clash table H S st i r g m b root at f n (SlotIs y f op n) (λ s σ. span (λ j. given s (op j) σ) 0 n) known size ne
          (λ s ρ σ e. span_len ρ (λ j. given s (op j) σ) b 0 m n e) (λ s ρ σ ft p. sym (ft y i has) ∙ p)

      module _ (eg : g ≡ f) (em : m ≡ n) where
        slot_rows : (s : Symbols) (ρ : Valuation) (σ : Terming) → Sol s.name H ρ → Fits S ρ σ → SlotIs y f op n s ρ σ → Rows b op n s ρ σ
        slot_rows s ρ σ h ft d =
            let here = slot_term_lem s ρ σ h ft in
            let rows : span ρ b m ≡ span (λ j. given s (op j) σ) 0 n = cc in
            span_rows b n ρ (λ j. given s (op j) σ) (ap (span ρ b) (sym em) ∙ rows)

        pub structure_read : {H' : Heap} {S' : Slots} → Turned table H S (Rows b op n) (Rows b op n) H' S' → Turned table H S (SlotIs y f op n) (SlotIs y f op n) H' S'
        structure_read t = record {
          stands = t.stands;
          longer = t.longer;
          into = λ s names ρ σ h ft.
              let w = t.into s names ρ σ h ft in
              (w.0, w.1, slot_term_lem s ρ σ w.0 w.1 ∙ ap₂ (λ x k. node (s.name x) (span ρ b k)) eg em ∙ ap (node (s.name f)) (rows_span b n ρ (λ j. given s (op j) σ) w.2));
          back = λ s names ρ σ h ft d. t.back s names ρ σ h ft (slot_rows s ρ σ h ft d);
        }

        pub structure_unread : Unmet table H S (Rows b op n) → Unmet table H S (SlotIs y f op n)
        structure_unread un s names ρ σ h ft d = un s names ρ σ h ft (slot_rows s ρ σ h ft d)
