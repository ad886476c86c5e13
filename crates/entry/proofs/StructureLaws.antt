-- Structures that are made and read, cell by cell.
use Rattle.std.proofs.Common.{◌≡◌, ℕ, ◌+◌, ◌<◌, ◌≤◌, List, [], ◌∷◌, ◌++◌, length, get_or, Some, None, Option, Bool, true, false, MatchBool, sym, refl, ap, ◌∙◌, subst, arith}
use Rattle.std.proofs.lemmas.List.{length_push}
use Rattle.heap.specs.Heaps.{Heap, cell, arity}
use Rattle.heap.specs.Solutions.{Root}
use Rattle.heap.specs.declared.cell.Cell.{Cell}
use Rattle.heap.specs.declared.cell.Cell.TheVariants.{Node}
use Rattle.matching.specs.declared.trail.Bound.{Bound}
use Rattle.cells.specs.States.{Fine}
use Rattle.cells.specs.Growth.{Spare, Grew}
use Rattle.cells.proofs.StateLaws.{spare_none, spare_push}
use Rattle.cells.proofs.GrowthLaws.{grew_none, grew_push, grew_trans}
use Rattle.code.specs.declared.instructions.Operand.{Operand}
use Rattle.code.specs.declared.instructions.Operand.TheVariants.{Fresh, Known, Constant}
use Rattle.entering.specs.Turns.{Slots, Inside, Nothing, Turned, Unmet, Turns, Fails, Takes, Taken, AllTake, AllTaken, Is, Rows, Structure, SlotIs, Built, slot_cell, slot_set, celled, slotted}
use Rattle.entering.proofs.TurnLaws.{inside_set}
use Rattle.entering.proofs.OperandLaws.{turned_made}
use Rattle.entering.proofs.RowLaws.{rows_none, rows_made, rows_read, rows_unread, structure_made, structure_written, structure_unwritten, structure_clash, structure_read, structure_unread}
use Rattle.entry.specs.Loops.{Building, Reading}
use Rattle.entry.proofs.GetLaws.{inside_long}

pub slot_arity : (x : Option ℕ) → arity (slot_cell x) ≡ 0
slot_arity None = refl
slot_arity (Some i) = refl

made_arity : (S : Slots) (o : Operand) → arity (celled S o) ≡ 0
made_arity S (Fresh y) = slot_arity (get_or S y None)
made_arity S (Known y) = slot_arity (get_or S y None)
made_arity S (Constant c) = refl

slot_inside_lem : (H : Heap) (S : Slots) (y : ℕ) → y < length S → Inside S H → (x : Option ℕ) → get_or S y None ≡ x → (c : Cell) → Inside (slot_set x S y (length H)) (H ++ c ∷ [])
slot_inside_lem H S y lt h None e c = inside_set S y (length H) lt e (length (H ++ c ∷ [])) (omega (arith, length_push H c)) (inside_long S H (H ++ c ∷ []) (omega (arith, length_push H c)) h)
slot_inside_lem H S y lt h (Some i) e c = inside_long S H (H ++ c ∷ []) (omega (arith, length_push H c)) h

made_inside : (H : Heap) (S : Slots) (o : Operand) → Taken (length S) o → Inside S H → Inside (slotted S o (length H)) (H ++ celled S o ∷ [])
made_inside H S (Fresh y) t h = slot_inside_lem H S y t h (get_or S y None) refl (celled S (Fresh y))
made_inside H S (Known y) t h = slot_inside_lem H S y t h (get_or S y None) refl (celled S (Known y))
made_inside H S (Constant c) t h = inside_long S H (H ++ Node c 0 0 ∷ []) (omega (arith, length_push H (Node c 0 0))) h

module _ (H : Heap) (t : List Bound) (S : Slots) (op : ℕ → Operand) where
  pub building_none : (n : ℕ) → Fine H n → Inside S H → Building H t S op 0 H t S
  building_none n fine inside = record {
    grew = grew_none H t;
    long = omega arith;
    spare = spare_none H n fine;
    inside = inside;
    rows = λ table st takes. rows_none table op H S (length H) Nothing st;
  }

  pub building_more : (k : ℕ) (H₁ H₂ : Heap) (t₁ t₂ : List Bound) (S₁ S₂ : Slots) (o : Operand) → o ≡ op k → Taken (length S₁) o → length S₁ ≡ length S
      → H₂ ≡ H₁ ++ celled S₁ o ∷ [] → S₂ ≡ slotted S₁ o (length H₁) → t₂ ≡ t₁ → Building H t S op k H₁ t₁ S₁ → Building H t S op (k + 1) H₂ t₂ S₂
  building_more k H₁ H₂ t₁ t₂ S₁ S₂ o eo taken same eh es et b =
      let long : length H₂ ≡ length H₁ + 1 = ap length eh ∙ length_push H₁ (celled S₁ o) in
      record {
        grew = subst (λ x. Grew H t H₂ x) (sym et) (grew_trans b.grew (subst (λ X. Grew H₁ t₁ X t₁) (sym eh) (grew_push H₁ t₁ (celled S₁ o))));
        long = omega (arith, b.long);
        spare = subst (λ X. Spare X (k + 1)) (sym eh) (spare_push H₁ (celled S₁ o) k (made_arity S₁ o) b.spare);
        inside = subst (λ X. Inside S₂ X) (sym eh) (subst (λ X. Inside X (H₁ ++ celled S₁ o ∷ [])) (sym es) (made_inside H₁ S₁ o taken b.inside));
        rows = λ table st takes.
            let first = b.rows table st (λ j l. takes j (omega arith)) in
            let here : Takes table (length S₁) o = subst (λ m. Takes table m o) (sym same) (subst (λ z. Takes table (length S) z) (sym eo) (takes k (omega arith))) in
            let made = turned_made table H₁ S₁ first.stands o here in
            rows_made table op k b.long first
            (subst (λ z. Turned table H₁ S₁ Nothing (Is z (length H₁)) H₂ S₂) eo
            (subst (λ X. Turned table H₁ S₁ Nothing (Is o (length H₁)) X S₂) (sym eh)
            (subst (λ X. Turned table H₁ S₁ Nothing (Is o (length H₁)) (H₁ ++ celled S₁ o ∷ []) X) (sym es) made)));
      }

  -- the structure of the cells
  pub built_structure : (f n j b : ℕ) (H₁ H₂ : Heap) (t₁ : List Bound) (S₁ : Slots) → Building H t S op n H₁ t₁ S₁ → b ≡ length H → j ≡ length H₁
      → H₂ ≡ H₁ ++ Node f n b ∷ [] → Turns H S (Built (length S) f op n) Nothing (Structure f op n j) H₂ S₁
  built_structure f n j b H₁ H₂ t₁ S₁ bd eb ej eh table st built =
      let first = bd.rows table st built.operands in
      subst (λ z. Turned table H S Nothing (Structure f op n z) H₂ S₁) (sym ej)
      (subst (λ X. Turned table H S Nothing (Structure f op n (length H₁)) X S₁) (sym (eh ∙ ap (λ z. H₁ ++ Node f n z ∷ []) eb))
      (structure_made table op f n built.known built.size bd.long first))

  pub reading_none : (b : ℕ) → Inside S H → Reading H t S op b 0 H t S
  reading_none b inside = record { grew = grew_none H t; long = omega arith; inside = inside; rows = λ table st takes. rows_none table op H S b (Rows b op 0) st }

  module _ (b k : ℕ) (within : b + k < length H) (H₁ : Heap) (t₁ : List Bound) (S₁ : Slots) (o : Operand) (eo : o ≡ op k) (same : length S₁ ≡ length S) (rd : Reading H t S op b k H₁ t₁ S₁) where
    here : (table : List ℕ) → Takes table (length S) (op k) → Takes table (length S₁) o
    here table h = subst (λ m. Takes table m o) (sym same) (subst (λ z. Takes table (length S) z) (sym eo) h)

    pub reading_more : (H₂ : Heap) (t₂ : List Bound) (S₂ : Slots) → Grew H₁ t₁ H₂ t₂ → length H₂ ≤ length H₁ + 1 → Inside S₂ H₂
        → Turns H₁ S₁ (λ table. Takes table (length S₁) o) (Is o (b + k)) (Is o (b + k)) H₂ S₂ → Reading H t S op b (k + 1) H₂ t₂ S₂
    reading_more H₂ t₂ S₂ g l inside got = record {
      grew = grew_trans rd.grew g;
      long = omega (arith, rd.long);
      inside = inside;
      rows = λ table st takes.
          let first = rd.rows table st (λ j l. takes j (omega arith)) in
          rows_read table op b k within first
          (subst (λ z. Turned table H₁ S₁ (Is z (b + k)) (Is z (b + k)) H₂ S₂) eo (got table first.stands (here table (takes k (omega arith)))));
    }

    pub reading_fails : (n : ℕ) → k < n → Fails H₁ S₁ (λ table. Takes table (length S₁) o) (Is o (b + k)) → Fails H S (AllTake (length S) op n) (Rows b op n)
    reading_fails n lt un table st takes =
        let first = rd.rows table st (λ j l. takes j (omega arith)) in
        rows_unread table op b k within first n lt (subst (λ z. Unmet table H₁ S₁ (Is z (b + k))) eo (un table first.stands (here table (takes k lt))))

-- the slot y has a structure
module _ (H : Heap) (S : Slots) (op : ℕ → Operand) (f n y i r g m b : ℕ) (has : get_or S y None ≡ Some i) (root : Root H i r) (at : cell H r ≡ Node g m b) where
  pub told_clash : (g ≡ f → m ≡ n → ⊥) → Fails H S (Built (length S) f op n) (SlotIs y f op n)
  told_clash ne table st built = structure_clash table op f n built.known built.size H S st y i r g m b has root at ne

  pub told_read : g ≡ f → m ≡ n → (H' : Heap) (S' : Slots) (ok : Bool)
      → MatchBool ok (Turns H S (AllTake (length S) op n) (Rows b op n) (Rows b op n) H' S') (Fails H S (AllTake (length S) op n) (Rows b op n))
      → MatchBool ok (Turns H S (Built (length S) f op n) (SlotIs y f op n) (SlotIs y f op n) H' S') (Fails H S (Built (length S) f op n) (SlotIs y f op n))
  told_read eg em H' S' true t = λ table st built. structure_read table op f n built.known built.size H S st y i r g m b has root at eg em (t table st built.operands)
  told_read eg em H' S' false un = λ table st built. structure_unread table op f n built.known built.size H S st y i r g m b has root at eg em (un table st built.operands)

-- or is made equal to one
pub told_write : (H H₁ H' : Heap) (S S₁ S' : Slots) (op : ℕ → Operand) (f n y j : ℕ) (ok : Bool) → Turns H S (Built (length S) f op n) Nothing (Structure f op n j) H₁ S₁
    → MatchBool ok (Turns H₁ S₁ (λ table. Unit {0}) (Is (Known y) j) (Is (Known y) j) H' S') (Fails H₁ S₁ (λ table. Unit {0}) (Is (Known y) j))
    → MatchBool ok (Turns H S (Built (length S) f op n) (SlotIs y f op n) (SlotIs y f op n) H' S') (Fails H S (Built (length S) f op n) (SlotIs y f op n))
told_write H H₁ H' S S₁ S' op f n y j true first t = λ table st built.
    let w = first table st built in
    structure_written table op f n built.known built.size y j w (t table w.stands tt)
told_write H H₁ H' S S₁ S' op f n y j false first un = λ table st built.
    let w = first table st built in
    structure_unwritten table op f n built.known built.size y j w (un table w.stands tt)

-- the slot of an operand in a row
pub taken_at : (op : ℕ → Operand) (n k m l : ℕ) (o : Operand) → o ≡ op k → l ≡ m → k < n → AllTaken m op n → Taken l o
taken_at op n k m l o eo el lt h = subst (λ z. Taken z o) (sym el) (subst (Taken m) (sym eo) (h k lt))
