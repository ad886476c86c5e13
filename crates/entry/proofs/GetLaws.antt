-- A cell that has been made equal to an operand, or could not be.
use Rattle.std.proofs.Common.{◌≡◌, ℕ, ◌+◌, ◌<◌, ◌≤◌, Bool, true, false, List, [], ◌∷◌, ◌++◌, length, get_or, set, Some, None, MatchBool, sym, ap, subst, arith}
use Rattle.std.proofs.lemmas.List.{length_push}
use Rattle.heap.specs.Heaps.{Heap, cell}
use Rattle.heap.specs.Solutions.{Root, Apart}
use Rattle.heap.specs.declared.cell.Cell.TheVariants.{Node}
use Rattle.matching.specs.Trails.{Kept}
use Rattle.matching.specs.Unifies.{Unified}
use Rattle.matching.specs.declared.trail.Bound.{Bound}
use Rattle.code.specs.declared.instructions.Operand.{Operand}
use Rattle.code.specs.declared.instructions.Operand.TheVariants.{Known, Constant}
use Rattle.cells.specs.Growth.{Grew}
use Rattle.cells.proofs.GrowthLaws.{grew_push, grew_kept, grew_trans}
use Rattle.entering.specs.Turns.{Slots, Inside, Turns, Fails, Takes, Is}
use Rattle.entering.proofs.OperandLaws.{got_known, unmet_known, got_fresh, got_constant, unmet_constant, bound_constant, unbound_constant}

pub inside_long : (S : Slots) (H H' : Heap) → length H ≤ length H' → Inside S H → Inside S H'
inside_long S H H' le h y i e = let l = h y i e in omega arith

-- the slot has the cell j
pub known_told : (H H' : Heap) (t t' : List Bound) (S : Slots) (y i j : ℕ) (r : Bool) → Kept H t H' t' → get_or S y None ≡ Some j → MatchBool r (Unified H H' i j) (Apart H i j)
    → MatchBool r (Turns H S (λ table. Unit {0}) (Is (Known y) i) (Is (Known y) i) H' S) (Fails H S (λ table. Unit {0}) (Is (Known y) i))
known_told H H' t t' S y i j true k at u = λ table st _. got_known table H S st y i j at H' k.long k.nodes u
known_told H H' t t' S y i j false k at a = λ table st _. unmet_known table H S st y i j at a

pub fresh_told : (H : Heap) (S : Slots) (y i : ℕ) → i < length H → y < length S → get_or S y None ≡ None → Turns H S (λ table. Unit {0}) (Is (Known y) i) (Is (Known y) i) H (set S y (Some i))
fresh_told H S y i l lt free = λ table st _. got_fresh table H S st y i l lt free

-- the cell's root is a structure
module _ (H : Heap) (c i r g m b : ℕ) (root : Root H i r) (at : cell H r ≡ Node g m b) where
  pub constant_same : g ≡ c → m ≡ 0 → (S : Slots) → Turns H S (λ table. Takes table (length S) (Constant c)) (Is (Constant c) i) (Is (Constant c) i) H S
  constant_same e em S table st takes = got_constant table H S st i r g m b root at c e em

  pub constant_clash : (g ≡ c → m ≡ 0 → ⊥) → (S : Slots) → Fails H S (λ table. Takes table (length S) (Constant c)) (Is (Constant c) i)
  constant_clash ne S table st takes = unmet_constant table H S st i r g m b root at c takes ne

-- or it is unbound
module _ (H H₁ H' : Heap) (t t' : List Bound) (c i j : ℕ) (lt : i < length H) (made : H₁ ≡ H ++ Node c 0 0 ∷ []) (place : j ≡ length H) where
  pub constant_bound : (r : Bool) → Kept H₁ t H' t' → MatchBool r (Unified H₁ H' i j) (Apart H₁ i j) → (S : Slots)
      → MatchBool r (Turns H S (λ table. Takes table (length S) (Constant c)) (Is (Constant c) i) (Is (Constant c) i) H' S) (Fails H S (λ table. Takes table (length S) (Constant c)) (Is (Constant c) i))
  constant_bound true k u S = λ table st takes.
      let u' : Unified (H ++ Node c 0 0 ∷ []) H' i (length H) = subst (λ z. Unified (H ++ Node c 0 0 ∷ []) H' i z) place (subst (λ X. Unified X H' i j) made u) in
      let k' : Kept (H ++ Node c 0 0 ∷ []) t H' t' = subst (λ X. Kept X t H' t') made k in
      bound_constant table H S st c i takes lt H' k'.long k'.nodes u'
  constant_bound false k a S = λ table st takes.
      unbound_constant table H S st c i takes lt (subst (λ z. Apart (H ++ Node c 0 0 ∷ []) i z) place (subst (λ X. Apart X i j) made a))

  pub constant_grew : Kept H₁ t H' t' → Grew H t H' t'
  constant_grew k = grew_trans (subst (λ X. Grew H t X t) (sym made) (grew_push H t (Node c 0 0))) (grew_kept k)

  pub constant_long : Kept H₁ t H' t' → length H' ≤ length H + 1
  constant_long k = omega (arith, k.long, ap length made, length_push H (Node c 0 0))

-- any operand
pub slot_told : (o : Operand) (H H' : Heap) (S S' : Slots) (y i : ℕ) (r : Bool) → Is o i ≡ Is (Known y) i
    → MatchBool r (Turns H S (λ table. Unit {0}) (Is (Known y) i) (Is (Known y) i) H' S') (Fails H S (λ table. Unit {0}) (Is (Known y) i))
    → MatchBool r (Turns H S (λ table. Takes table (length S) o) (Is o i) (Is o i) H' S') (Fails H S (λ table. Takes table (length S) o) (Is o i))
slot_told o H H' S S' y i true e h = λ table st _. subst (λ P. Turns H S (λ table. Unit {0}) P P H' S') (sym e) h table st tt
slot_told o H H' S S' y i false e h = λ table st _. subst (λ P. Fails H S (λ table. Unit {0}) P) (sym e) h table st tt

pub constant_any : (o : Operand) (c : ℕ) → o ≡ Constant c → (H H' : Heap) (S : Slots) (i : ℕ) (r : Bool)
    → ((S : Slots) → MatchBool r (Turns H S (λ table. Takes table (length S) (Constant c)) (Is (Constant c) i) (Is (Constant c) i) H' S) (Fails H S (λ table. Takes table (length S) (Constant c)) (Is (Constant c) i)))
    → MatchBool r (Turns H S (λ table. Takes table (length S) o) (Is o i) (Is o i) H' S) (Fails H S (λ table. Takes table (length S) o) (Is o i))
constant_any o c e H H' S i r h =
    subst (λ z. MatchBool r (Turns H S (λ table. Takes table (length S) z) (Is z i) (Is z i) H' S) (Fails H S (λ table. Takes table (length S) z) (Is z i))) (sym e) (h S)
