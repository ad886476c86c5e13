-- The code of a clause keeps the rules.
use Rattle.std.proofs.Common.{◌≡◌, ℕ, zero, suc, ◌+◌, ◌<◌, ◌≤◌, Bool, true, false, cond, ◌&&◌, eqb, ltb, leb, List, [], ◌∷◌, map, length, get_or, replicate, sym, refl, ap, ◌∙◌, subst, ap₂, arith}
use lib.ListN.{length-replicate}
use Rattle.code.specs.declared.instructions.Operand.TheVariants.{Fresh, Known, Constant}
use Rattle.code.specs.declared.instructions.Instruction.{Instruction}
use Rattle.code.specs.declared.instructions.Instruction.TheVariants.{Allocate, Get, GetStructure, Unify, Put, PutStructure, Set, Call, Proceed}
use Rattle.std.proofs.lemmas.List.{length-map}
use Rattle.std.proofs.lemmas.Bool.{eq-eqb, le-leb, lt-ltb, and_from}
use Rattle.code.specs.Table.{found}
use Rattle.code.specs.Words.{first, second, encode, decode, first_of, second_of}
use Rattle.code.specs.Instructions.{number, within}
use Rattle.code.specs.Tests.{every, total}
use Rattle.code.specs.Rules.{allowed, legal, opened, ranged, v1, v2, v3, v4, v5, v6, key_of}
use Rattle.code.specs.Passes.{inside as slot_inside}
use Rattle.code.specs.Instructions.{sets}
use Rattle.code.specs.WellFormed.{Kept}
use Rattle.code.proofs.WordLaws.{opcode_packed, first_packed, second_packed}
use Rattle.code.proofs.RangeLaws.{all_inside}
use Rattle.code.proofs.SlotLaws.{slots_are}
use Rattle.symbol_table.specs.Symbols.{Signature, arity_at, arities_of}
use Rattle.compiler.specs.Lawful.{Lawful, Lawfuls}
use Rattle.compiler.specs.Reading.{weight, Carries}
use Rattle.compiler.specs.Written.{Wrote}
use Rattle.compiler.specs.Scripts.{start}
use Rattle.compiler.specs.declared.items.Item.{Item}
use Rattle.compiler.proofs.SlotRule.{Inside, Insides, slots_inside, slots_kept}
use Rattle.compiler.proofs.ArgumentRule.{Argued, Argueds, argued, full}
use Rattle.compiler.proofs.OrderRule.{ordered, counted}
use Rattle.compiler.proofs.FrameRule.{Framed, framed}
use Rattle.compiler.proofs.StepLaws.{Coded}

pub arities_at : (sig : Signature) (f : ℕ) → get_or (arities_of sig) f 0 ≡ arity_at sig f
arities_at [] f = refl
arities_at (s ∷ sig) zero = refl
arities_at (s ∷ sig) (suc f) = arities_at sig f

pub arities_long : (sig : Signature) → length (arities_of sig) ≡ length sig
arities_long sig = length-map sig (λ s. s.arity)

module _ (n : ℕ) (sig : Signature) where
  abbrev ar : List ℕ
  ar = arities_of sig

  slot_in : (y : ℕ) → y < n → ltb y n ≡ true
  slot_in y h = lt-ltb y n h

  argument_in : (a : ℕ) → (1 ≤ a) × (a ≤ 8) → (leb 1 a && leb a 8) ≡ true
  argument_in a h = and_from _ _ (le-leb 1 a h.0) (le-leb a 8 h.1)

  known_in : (f : ℕ) → f < length sig → ltb f (length ar) ≡ true
  known_in f h = lt-ltb f (length ar) (omega (arith, arities_long sig))

  constant_in : (c : ℕ) → (c < length sig) × (arity_at sig c ≡ 0) → (ltb c (length ar) && eqb (get_or ar c 0) 0) ≡ true
  constant_in c h = and_from _ _ (known_in c h.0) (eq-eqb (get_or ar c 0) 0 (arities_at sig c ∙ h.1))

  structure_in : (f : ℕ) → (f < length sig) × (1 ≤ arity_at sig f) → (ltb f (length ar) && leb 1 (get_or ar f 0)) ≡ true
  structure_in f h = and_from _ _ (known_in f h.0) (le-leb 1 (get_or ar f 0) (let q = h.1 in omega (arith, arities_at sig f)))

  in_range_lem : (w : Instruction) → Inside n w → Argued w → Lawful sig w → ranged n ar w ≡ true
  in_range_lem (Allocate m) i a l = and_from _ _ (le-leb m 128 l) refl
  in_range_lem (Get (Fresh y) b) i a l = and_from _ _ (slot_in y i) (argument_in b a)
  in_range_lem (Get (Known y) b) i a l = and_from _ _ (slot_in y i) (argument_in b a)
  in_range_lem (Get (Constant c) b) i a l = and_from _ _ (argument_in b a) (constant_in c l)
  in_range_lem (GetStructure y f) i a l = and_from _ _ (slot_in y i) (structure_in f l)
  in_range_lem (Unify (Fresh y)) i a l = and_from _ _ (slot_in y i) refl
  in_range_lem (Unify (Known y)) i a l = and_from _ _ (slot_in y i) refl
  in_range_lem (Unify (Constant c)) i a l = constant_in c l
  in_range_lem (Put (Fresh y) b) i a l = and_from _ _ (slot_in y i) (argument_in b a)
  in_range_lem (Put (Known y) b) i a l = and_from _ _ (slot_in y i) (argument_in b a)
  in_range_lem (Put (Constant c) b) i a l = and_from _ _ (argument_in b a) (constant_in c l)
  in_range_lem (PutStructure y f) i a l = and_from _ _ (slot_in y i) (structure_in f l)
  in_range_lem (Set (Fresh y)) i a l = and_from _ _ (slot_in y i) refl
  in_range_lem (Set (Known y)) i a l = and_from _ _ (slot_in y i) refl
  in_range_lem (Set (Constant c)) i a l = constant_in c l
  in_range_lem (Call p) i a l = known_in p l
  in_range_lem Proceed i a l = refl

  module _ (few : n ≤ 128) (small : length sig ≤ 256) where
    narrow_first : (w : Instruction) → Inside n w → Argued w → Lawful sig w → first_of w < 256
    narrow_first (Allocate m) i a l = omega arith
    narrow_first (Get (Fresh y) b) i a l = omega arith
    narrow_first (Get (Known y) b) i a l = omega arith
    narrow_first (Get (Constant c) b) i a l = (let q = a.1 in omega arith)
    narrow_first (GetStructure y f) i a l = omega arith
    narrow_first (Unify (Fresh y)) i a l = omega arith
    narrow_first (Unify (Known y)) i a l = omega arith
    narrow_first (Unify (Constant c)) i a l = omega arith
    narrow_first (Put (Fresh y) b) i a l = omega arith
    narrow_first (Put (Known y) b) i a l = omega arith
    narrow_first (Put (Constant c) b) i a l = (let q = a.1 in omega arith)
    narrow_first (PutStructure y f) i a l = omega arith
    narrow_first (Set (Fresh y)) i a l = omega arith
    narrow_first (Set (Known y)) i a l = omega arith
    narrow_first (Set (Constant c)) i a l = omega arith
    narrow_first (Call p) i a l = omega arith
    narrow_first Proceed i a l = omega arith

    narrow_second : (w : Instruction) → Inside n w → Argued w → Lawful sig w → second_of w < 65536
    narrow_second (Allocate m) i a l = omega arith
    narrow_second (Get (Fresh y) b) i a l = (let q = a.1 in omega arith)
    narrow_second (Get (Known y) b) i a l = (let q = a.1 in omega arith)
    narrow_second (Get (Constant c) b) i a l = (let q = l.0 in omega arith)
    narrow_second (GetStructure y f) i a l = (let q = l.0 in omega arith)
    narrow_second (Unify (Fresh y)) i a l = omega arith
    narrow_second (Unify (Known y)) i a l = omega arith
    narrow_second (Unify (Constant c)) i a l = (let q = l.0 in omega arith)
    narrow_second (Put (Fresh y) b) i a l = (let q = a.1 in omega arith)
    narrow_second (Put (Known y) b) i a l = (let q = a.1 in omega arith)
    narrow_second (Put (Constant c) b) i a l = (let q = l.0 in omega arith)
    narrow_second (PutStructure y f) i a l = (let q = l.0 in omega arith)
    narrow_second (Set (Fresh y)) i a l = omega arith
    narrow_second (Set (Known y)) i a l = omega arith
    narrow_second (Set (Constant c)) i a l = (let q = l.0 in omega arith)
    narrow_second (Call p) i a l = omega arith
    narrow_second Proceed i a l = omega arith

    entry_is : (w : Instruction) → allowed n ar (found (number w)) (first_of w) (second_of w) ≡ ranged n ar w
    entry_is (Allocate m) = refl
    entry_is (Get (Fresh y) b) = refl
    entry_is (Get (Known y) b) = refl
    entry_is (Get (Constant c) b) = refl
    entry_is (GetStructure y f) = refl
    entry_is (Unify (Fresh y)) = refl
    entry_is (Unify (Known y)) = refl
    entry_is (Unify (Constant c)) = refl
    entry_is (Put (Fresh y) b) = refl
    entry_is (Put (Known y) b) = refl
    entry_is (Put (Constant c) b) = refl
    entry_is (PutStructure y f) = refl
    entry_is (Set (Fresh y)) = refl
    entry_is (Set (Known y)) = refl
    entry_is (Set (Constant c)) = refl
    entry_is (Call p) = refl
    entry_is Proceed = refl

    legal_word : (w : Instruction) → Inside n w → Argued w → Lawful sig w → legal n ar (encode w) ≡ true
    legal_word w i a l =
        let x = narrow_first w i a l in
        let y = narrow_second w i a l in
        ap (λ o. allowed n ar (found o) (first (encode w)) (second (encode w))) (opcode_packed (number w) (first_of w) (second_of w) x y)
        ∙ ap₂ (λ f s. allowed n ar (found (number w)) f s) (first_packed (number w) (first_of w) (second_of w) x y) (second_packed (number w) (first_of w) (second_of w) x y)
        ∙ entry_is w ∙ in_range_lem w i a l

    all_legal : (ws : List Instruction) → Insides n ws → Argueds ws → Lawfuls sig ws → every (legal n ar) (map encode ws) ≡ true
    all_legal [] i a l = refl
    all_legal (w ∷ ws) i a l = and_from _ _ (legal_word w i.0 a.0 l.0) (all_legal ws i.1 a.1 l.1)

-- the rules that the code of a clause keeps
module _ {sig : Signature} {q vars n : ℕ} {ps : List ℕ} {ts : List Item} {out out' : List ℕ} (c : Coded sig q vars n ps ts out out' (replicate n false)) (arities : (f : ℕ) → arity_at sig f ≤ 8) (small : length sig ≤ 256)
    (few : n ≤ 128) (light : weight ps ts ≤ 128) (goals : length ps ≤ 8) where
  abbrev raw : List ℕ
  raw = map encode c.code

  opens : opened raw ≡ n
  opens =
      ap opened c.opens.1
      ∙ ap₂ (λ (o f : ℕ). cond (eqb o 1) f 0) (opcode_packed 1 n 0 (omega arith) (omega arith)) (first_packed 1 n 0 (omega arith) (omega arith))

  kept_1 : v1 (arities_of sig) raw ≡ true
  kept_1 =
      ap (λ m. every (legal m (arities_of sig)) raw) opens
      ∙ all_legal n sig few small c.code
      (subst (λ m. Insides m c.code) (length-replicate n false) (slots_inside sig c.code 0 0 (replicate n false) c.orderly c.lawful))
      (argued arities (arities q) c.script) c.lawful

  framing : (ws : List Instruction) → length ws ≡ weight ps ts + 2 → total (within 16 16) ws ≡ length ps → Framed (start (arity_at sig q)) ws → v2 ws ≡ true
  framing [] long calls h = absurd h
  framing (w ∷ ws) long calls h =
      and_from _ _ (and_from _ _ h.0 h.1) (and_from _ _ (le-leb (length ws) 129 (omega arith)) (le-leb (total (within 16 16) ws) 8 (less (within 16 16 w) (total (within 16 16) ws) calls)))
    where
      less : (b : Bool) (m : ℕ) → cond b (suc m) m ≡ length ps → m ≤ 8
      less true m e = omega arith
      less false m e = omega arith

  kept_5 : v5 (opened raw) (arities_of sig) c.code ≡ true
  kept_5 =
      ap (λ m. v5 m (arities_of sig) c.code) opens
      ∙ sym (slots_are n (arities_of sig) c.code (omega arith) (subst (λ m. every (λ w. slot_inside m (sets w)) c.code ≡ true) opens (subst (λ l. every (λ w. slot_inside (opened raw) (sets w)) l ≡ true) c.exact (all_inside (arities_of sig) raw kept_1))))
      ∙ slots_kept sig (arities_of sig) (arities_at sig) n c.code (omega arith) c.orderly c.lawful

  pub kept : (key : ℕ) → key ≡ key_of (map decode raw) → Kept (arities_of sig) q key raw
  kept key is = record {
    v1_kept = kept_1;
    v2_kept = ap v2 c.exact ∙ framing c.code c.size c.goals (framed c.script);
    v3_kept = ap v3 c.exact ∙ ordered c.script;
    v4_kept = ap (v4 (arities_of sig)) c.exact ∙ counted sig (arities_of sig) (arities_at sig) c.script;
    v5_kept = ap (v5 (opened raw) (arities_of sig)) c.exact ∙ kept_5;
    v6_kept = ap₂ (λ m l. v6 m (arities_of sig) l) (arities_at sig q) c.exact ∙ full sig (arities_of sig) (arities_at sig) c.script;
    v7_kept = eq-eqb key (key_of (map decode raw)) is;
  }

pub wrote : {sig : Signature} {q vars n : ℕ} {ps : List ℕ} {ts : List Item} (code : List ℕ) → Coded sig q vars n ps ts [] code (replicate n false)
    → ((f : ℕ) → arity_at sig f ≤ 8) → length sig ≤ 256 → n ≤ 128 → weight ps ts ≤ 128 → length ps ≤ 8 → Wrote sig q ps ts code
wrote {sig} {q} {ps = ps} {ts = ts} code c arities small few light goals = subst (Wrote sig q ps ts) (sym c.longer) (record {
  size = length-map c.code encode ∙ c.size;
  carries = subst (Carries sig q ps ts) (sym c.exact) c.carries;
  kept = kept c arities small few light goals (key_of (map decode (map encode c.code))) refl;
})
