-- An instruction, and the words after it.
use Rattle.std.proofs.Common.{◌≡◌, ℕ, ◌+◌, ◌-◌, ◌<◌, ◌≤◌, ◌⊎◌, List, [], ◌∷◌, ◌++◌, map, length, get_or, take, drop, set, Result, Ok, Err, IsErr, MatchResult, sym, refl, ap, ◌∙◌, subst, inl, inr, arith}
use lib.ListN.{length-map, get_or-map}
use Rattle.std.proofs.lemmas.List.{length-take-le, get_or-take, drop-map}
use Rattle.horn.specs.Terms.{node}
use Rattle.heap.specs.Limits.{cell_limit}
use Rattle.heap.specs.Heaps.{Heap}
use Rattle.code.specs.Words.{decode}
use Rattle.code.specs.Meaning.{Symbols, Terming, parts, Says, goals}
use Rattle.code.specs.declared.instructions.Operand.{Operand}
use Rattle.code.specs.declared.instructions.Instruction.{Instruction}
use Rattle.code.specs.declared.instructions.Instruction.TheVariants.{Allocate, Get, GetStructure, Unify, Put, PutStructure, Set, Call, Proceed}
use Rattle.entering.specs.declared.goal.Goal.{Goal}
use Rattle.entering.specs.Turns.{Slots, Nothing, Turns, Fails, Takes, AllTake, AllTaken, Is, Rows, SlotIs, Built}
use Rattle.entering.specs.Ready.{operand_of, Pieces, Ready, dues, calls}
use Rattle.entering.specs.States.{State, state, Setting, Going, Stuck, Stepped}
use Rattle.entering.proofs.OperandLaws.{takes_taken}
use Rattle.entering.proofs.ReadyLaws.{pieces_long, ready_takes, dues_drop}
use Rattle.entering.proofs.StepLaws.{step_passed, step_get, stuck_get, step_structure, stuck_structure, step_put, step_call}
use Rattle.entry.specs.Operands.{worded, put_at}
use Rattle.entry.specs.Runs.{Reached}

-- where a part of a step fails, the step does
pub stopped : {T E : Type 0} (P : T → Type 0) (Q : Type 0) (r : Result T E) → IsErr r → Q → MatchResult r P (λ _. Q)
stopped P Q (Ok x) h q = absurd (cc)
stopped P Q (Err e) h q = q

module _ (rest : List ℕ) where
  abbrev code : List Instruction
  code = map decode rest

  module _ (k : Setting) (H : Heap) (S : Slots) (R : List Operand) (G : List Goal) (w : Instruction) where
    -- what is so of an instruction is so of this one, which is it
    reached_by : (v : Instruction) → w ≡ v → (m' : State) → ((go : Going k (state H S R G (v ∷ code))) → Stepped k (state H S R G (v ∷ code)) m' go) → Reached k (state H S R G (w ∷ code)) m'
    reached_by v e m' h = subst (λ z. Reached k (state H S R G (z ∷ code)) m') (sym e) (record { stepped = h })

    stuck_by : (v : Instruction) → w ≡ v → Stuck k (state H S R G (v ∷ code)) → Stuck k (state H S R G (w ∷ code))
    stuck_by v e h = subst (λ z. Stuck k (state H S R G (z ∷ code))) (sym e) h

    pub going_by : (v : Instruction) → w ≡ v → Going k (state H S R G (w ∷ code)) → Going k (state H S R G (v ∷ code))
    going_by v e go = subst (λ z. Going k (state H S R G (z ∷ code))) e go

    pub reached_passed : ((o : Operand) × (w ≡ Unify o)) ⊎ (((o : Operand) × (w ≡ Set o)) ⊎ (((n : ℕ) × (w ≡ Allocate n)) ⊎ (w ≡ Proceed))) → Reached k (state H S R G (w ∷ code)) (state H S R G code)
    reached_passed (inl (o, e)) = reached_by (Unify o) e (state H S R G code) (λ go. step_passed k R G code (Unify o) (λ s α σ. refl) (λ s σ π. refl) go go.ready.1 (omega arith) (omega arith))
    reached_passed (inr (inl (o, e))) = reached_by (Set o) e (state H S R G code) (λ go. step_passed k R G code (Set o) (λ s α σ. refl) (λ s σ π. refl) go go.ready.1 (omega arith) (omega arith))
    reached_passed (inr (inr (inl (n, e)))) = reached_by (Allocate n) e (state H S R G code) (λ go. step_passed k R G code (Allocate n) (λ s α σ. refl) (λ s σ π. refl) go go.ready (omega arith) (omega arith))
    reached_passed (inr (inr (inr e))) = reached_by Proceed e (state H S R G code) (λ go. step_passed k R G code Proceed (λ s α σ. refl) (λ s σ π. refl) go go.ready (omega arith) (omega arith))

    pub reached_put : (o : Operand) (a : ℕ) → w ≡ Put o a → Reached k (state H S R G (w ∷ code)) (state H S (set R a o) G code)
    reached_put o a e = reached_by (Put o a) e (state H S (set R a o) G code) (step_put k R G code o a)

    module _ (o : Operand) (a : ℕ) (e : w ≡ Get o a) where
      pub reached_get : {H' : Heap} {S' : Slots} → length S' ≡ length S → length H' ≤ length H + 1
          → Turns H S (λ table. Takes table (length S) o) (Is o (k.first + (a - 1))) (Is o (k.first + (a - 1))) H' S' → Reached k (state H S R G (w ∷ code)) (state H' S' R G code)
      reached_get {H'} {S'} same long t = reached_by (Get o a) e (state H' S' R G code) (λ go. step_get k R G code o a go same long (t k.table go.stands go.ready.2))

      pub stuck_got : Going k (state H S R G (w ∷ code)) → Fails H S (λ table. Takes table (length S) o) (Is o (k.first + (a - 1))) → Stuck k (state H S R G (w ∷ code))
      stuck_got here un = let go = going_by (Get o a) e here in stuck_by (Get o a) e (stuck_get k R G code o a go (un k.table go.stands go.ready.2))

    -- a structure, with the words of its arguments
    module _ (y f : ℕ) (e : (w ≡ GetStructure y f) ⊎ (w ≡ PutStructure y f)) where
      says : (s : Symbols) (α σ : Terming) → Says s (w ∷ code) α σ ≡ ((σ y ≡ node (s.name f) (parts s (s.arity f) code σ)) × Says s code α σ)
      says s α σ = elim e [ inl q ↦ ap (λ z. Says s (z ∷ code) α σ) q | inr q ↦ ap (λ z. Says s (z ∷ code) α σ) q ]

      leave : (s : Symbols) (σ π : Terming) → goals s (w ∷ code) σ π ≡ goals s code σ π
      leave s σ π = elim e [ inl q ↦ ap (λ z. goals s (z ∷ code) σ π) q | inr q ↦ ap (λ z. goals s (z ∷ code) σ π) q ]

      cost : dues (w ∷ code) ≡ 1 + dues code
      cost = elim e [ inl q ↦ ap (λ z. dues (z ∷ code)) q | inr q ↦ ap (λ z. dues (z ∷ code)) q ]

      none : calls (w ∷ code) ≡ calls code
      none = elim e [ inl q ↦ omega (arith, ap (λ z. calls (z ∷ code)) q) | inr q ↦ omega (arith, ap (λ z. calls (z ∷ code)) q) ]

      module _ (go : Going k (state H S R G (w ∷ code))) where
        ready : (y < length S) × (f < length k.table) × Pieces (get_or k.table f 0) code × Ready k.table k.args (length S) (length R) go.put code
        ready = elim e [
          | inl q ↦ subst (λ z. Ready k.table k.args (length S) (length R) go.put (z ∷ code)) q go.ready
          | inr q ↦ subst (λ z. Ready k.table k.args (length S) (length R) go.put (z ∷ code)) q go.ready
        ]

        pub structure_long : get_or k.table f 0 ≤ length rest
        structure_long = omega (arith, pieces_long (get_or k.table f 0) code ready.2, length-map rest decode)

      module _ (n : ℕ) (size : n ≡ get_or k.table f 0) (words left : List ℕ) (front : words ≡ take n rest) (back : left ≡ drop n rest) where
        ops_are : (j : ℕ) → j < n → worded words j ≡ operand_of (get_or code j Proceed)
        ops_are j l = ap (λ ws. worded ws j) front ∙ ap (λ z. operand_of (decode z)) (get_or-take n rest j 0 l) ∙ ap operand_of (sym (get_or-map decode rest j 0))

        module _ (go : Going k (state H S R G (w ∷ code))) where
          long : length words ≡ n
          long = ap length front ∙ length-take-le n rest (omega (arith, structure_long go))

          operands : AllTake (length S) (worded words) n k.table
          operands j l = subst (Takes k.table (length S)) (sym (ops_are j l)) (ready_takes k.table k.args (length S) (length R) go.put (get_or k.table f 0) code (ready go).2 (ready go).3 j (omega arith))

          pieces : Pieces n code
          pieces = subst (λ z. Pieces z code) (sym size) (ready go).2

          pub structure_taken : AllTaken (length S) (worded words) (length words)
          structure_taken j l = takes_taken k.table (length S) (worded words j) (operands j (omega (arith, long)))

          pub structure_room : length H + length words < cell_limit
          structure_room = omega (arith, long, go.cells_room, cost, (dues_drop n code pieces).0)

          built : Built (length S) f (worded words) (length words) k.table
          built = record { known = (ready go).1; size = sym size ∙ sym long; operands = λ j l. operands j (omega (arith, long)) }

          pub stuck_structured : Fails H S (Built (length S) f (worded words) (length words)) (SlotIs y f (worded words) (length words)) → Stuck k (state H S R G (w ∷ code))
          stuck_structured un =
              stuck_structure k R G code w y f (length words) (worded words) (sym size ∙ sym long) (subst (λ z. Pieces z code) (sym long) pieces) (λ j l. ops_are j (omega (arith, long)))
              says leave go (ready go).3 cost none (un k.table go.stands built)

        pub reached_structure : {H' : Heap} {S' : Slots} → length S' ≡ length S → length H' ≤ length H + 1 + length words
            → Turns H S (Built (length S) f (worded words) (length words)) (SlotIs y f (worded words) (length words)) (SlotIs y f (worded words) (length words)) H' S'
            → Reached k (state H S R G (w ∷ code)) (state H' S' R G (map decode left))
        reached_structure {H'} {S'} same le t = record {
          stepped = λ go.
              let after : drop (length words) code ≡ map decode left = ap (λ z. drop z code) (long go) ∙ drop-map decode n rest ∙ ap (map decode) (sym back) in
              subst (λ c. Stepped k (state H S R G (w ∷ code)) (state H' S' R G c) go) after
              (step_structure k R G code w y f (length words) (worded words) (sym size ∙ sym (long go)) (subst (λ z. Pieces z code) (sym (long go)) (pieces go)) (λ j l. ops_are j (omega (arith, long go)))
              says leave go (ready go).3 cost none same le (t k.table go.stands (built go)));
        }

    -- a goal
    pub reached_call : (p n : ℕ) → w ≡ Call p → n ≡ get_or k.table p 0 → (i : ℕ) → i ≡ length H → {H' : Heap} {S' : Slots} → length S' ≡ length S → length H' ≡ length H + n
        → Turns H S (AllTake (length S) (put_at R) n) Nothing (Rows (length H) (put_at R) n) H' S'
        → Reached k (state H S R G (w ∷ code)) (state H' S' R (G ++ (record { symbol = p; arity = n; first = i }) ∷ []) code)
    reached_call p n e size i ei {H'} {S'} same long t =
        reached_by (Call p) e (state H' S' R (G ++ (record { symbol = p; arity = n; first = i }) ∷ []) code)
        (λ go. step_call k R G code p n (sym size) go (t k.table go.stands (λ j l. go.takes (1 + j) (go.ready.3 (1 + j) (omega arith) (omega arith)))) same long (record { symbol = p; arity = n; first = i })
        (ap (λ (z : ℕ). record { symbol = p; arity = n; first = z }) ei))
