-- Rule V5 of code that fills its slots in order, and the range of its slots.
use Rattle.std.proofs.Common.{◌≡◌, ℕ, zero, suc, ◌+◌, ◌-◌, ◌<◌, ◌≤◌, Bool, true, false, ◌&&◌, List, [], ◌∷◌, length, get_or, set, replicate, Option, Some, None, is_some, is_none, sym, refl, ap, ◌∙◌, subst, inl, inr, arith, length-set, get_or-set_other, get_or-set_same}
use lib.ListN.{length-replicate}
use Rattle.std.proofs.lemmas.List.{get_or_past, get_or_default, get_or-replicate}
use Rattle.std.proofs.lemmas.Bool.{leb-true, le-leb, and_from, cases_eq, cases_lt}
use Rattle.code.specs.declared.instructions.Operand.{Operand}
use Rattle.code.specs.declared.instructions.Operand.TheVariants.{Fresh, Known, Constant}
use Rattle.code.specs.declared.instructions.Instruction.{Instruction}
use Rattle.code.specs.declared.instructions.Instruction.TheVariants.{Allocate, Get, GetStructure, Unify, Put, PutStructure, Set, Call, Proceed}
use Rattle.symbol_table.specs.Symbols.{Signature, arity_at}
use Rattle.compiler.proofs.FillLaws.{fill_long}
use Rattle.compiler.specs.Filling.{Empty, Filled, Fits, fill}
use Rattle.compiler.specs.Order.{Orderly}
use Rattle.compiler.specs.Lawful.{Lawfuls}
use Rattle.code.specs.Instructions.{fresh, known}
use Rattle.code.specs.Passes.{held, can_read, can_set, marked, slot_pass}
use Rattle.code.proofs.ArgumentLaws.{below_all}

-- a slot that is empty or filled is one of them
pub empty_in : (s : List Bool) (y : ℕ) → Empty s y → y < length s
empty_in s y e = elim (cases_lt y (length s)) [ inl l ↦ l | inr g ↦ (let z : true ≡ false = sym (get_or_past s y true g) ∙ e in let q : ◌≡◌ {A = ℕ} 0 1 = cc in absurd (omega arith)) ]

pub filled_in : (s : List Bool) (y : ℕ) → Filled s y → y < length s
filled_in s y e = elim (cases_lt y (length s)) [ inl l ↦ l | inr g ↦ (let z : false ≡ true = sym (get_or_past s y false g) ∙ e in let q : ◌≡◌ {A = ℕ} 0 1 = cc in absurd (omega arith)) ]

not_both : (s : List Bool) (y : ℕ) → Empty s y → Filled s y → ⊥
not_both s y e f =
    let a : get_or s y true ≡ get_or s y false = get_or_default s y true false (empty_in s y e) in
    let z : true ≡ false = sym f ∙ sym a ∙ e in
    let q : ◌≡◌ {A = ℕ} 0 1 = cc in omega arith

-- what is empty after a slot has been filled was empty, and is another
unfilled : (s : List Bool) (y z : ℕ) → y < length s → Empty (set s y true) z → (y ≡ z → ⊥) × Empty s z
unfilled s y z lt e =
    let ne : (y ≡ z → ⊥) = λ q.
    (let a : get_or (set s y true) z true ≡ true = ap (λ k. get_or (set s y true) k true) (sym q) ∙ get_or-set_same s y true true lt in
    let b : true ≡ false = sym a ∙ e in
    let c : ◌≡◌ {A = ℕ} 0 1 = cc in omega arith) in
    (ne, sym (get_or-set_other s y z true true (λ q. ne (sym q))) ∙ e)

was_empty : (o : Operand) (s : List Bool) (z : ℕ) → Fits o s → Empty (fill o s) z → Empty s z
was_empty (Fresh y) s z f e = (unfilled s y z (empty_in s y f) e).1
was_empty (Known y) s z f e = e
was_empty (Constant c) s z f e = e

-- the slot that is due is empty
pub due_empty : (sig : Signature) (k z : ℕ) (ws : List Instruction) (s : List Bool) → Orderly sig (suc k) z ws s → Empty s z
due_empty sig k z [] s h = absurd h
due_empty sig zero z (Set o ∷ ws) s h = was_empty o s z h.1 h.2
due_empty sig (suc k) z (Set o ∷ ws) s h = was_empty o s z h.1 (due_empty sig k z ws (fill o s) h.2)
due_empty sig zero z (Allocate n ∷ ws) s h = absurd h.0
due_empty sig zero z (Get o a ∷ ws) s h = absurd h.0
due_empty sig zero z (GetStructure y f ∷ ws) s h = absurd h.0
due_empty sig zero z (Unify o ∷ ws) s h = absurd h.0
due_empty sig zero z (Put o a ∷ ws) s h = absurd h.0
due_empty sig zero z (PutStructure y f ∷ ws) s h = absurd h.0
due_empty sig zero z (Call p ∷ ws) s h = absurd h.0
due_empty sig zero z (Proceed ∷ ws) s h = absurd h.0
due_empty sig (suc k) z (Allocate n ∷ ws) s h = absurd h.0
due_empty sig (suc k) z (Get o a ∷ ws) s h = absurd h.0
due_empty sig (suc k) z (GetStructure y f ∷ ws) s h = absurd h.0
due_empty sig (suc k) z (Unify o ∷ ws) s h = absurd h.0
due_empty sig (suc k) z (Put o a ∷ ws) s h = absurd h.0
due_empty sig (suc k) z (PutStructure y f ∷ ws) s h = absurd h.0
due_empty sig (suc k) z (Call p ∷ ws) s h = absurd h.0
due_empty sig (suc k) z (Proceed ∷ ws) s h = absurd h.0

-- T has for each slot that was set the place from which on it may be read; at word i it says of the slots s what they are, but for those that are off
pub record Ties (i : ℕ) (s : List Bool) (T : List (Option ℕ)) (n : ℕ) (Off : ℕ → Type 0) : Type 0 where
  pub size : length s ≡ n
  pub long : n ≤ length T
  pub filled : (y : ℕ) → Filled s y → (Off y → ⊥) → held (get_or T y None) i ≡ true
  pub empty : (y : ℕ) → Empty s y → (Off y → ⊥) → is_none (get_or T y None) ≡ true

abbrev None_off : ℕ → Type 0
None_off y = ⊥

held_later : (t : Option ℕ) (i : ℕ) → held t i ≡ true → held t (i + 1) ≡ true
held_later None i h = h
held_later (Some t) i h = let l = leb-true t i h in le-leb t (i + 1) (omega arith)

held_some : (t : Option ℕ) (i : ℕ) → held t i ≡ true → is_some t ≡ true
held_some None i h = h
held_some (Some t) i h = refl

later : {s : List Bool} {T : List (Option ℕ)} {n : ℕ} {Off : ℕ → Type 0} (i : ℕ) → Ties i s T n Off → Ties (i + 1) s T n Off
later {T = T} i t = record { size = t.size; long = t.long; filled = λ y f o. held_later (get_or T y None) i (t.filled y f o); empty = t.empty }

-- a slot is filled by the word i
filled_now : {s : List Bool} {T : List (Option ℕ)} {n : ℕ} {Off : ℕ → Type 0} (i y : ℕ) → y < length s → Ties i s T n Off → Ties (i + 1) (set s y true) (set T y (Some (i + 1 + 0))) n Off
filled_now {s} {T} i y lt t = record {
  size = length-set s y true ∙ t.size;
  long = omega (arith, t.long, length-set T y (Some (i + 1 + 0)));
  filled = λ x f o.
      elim (cases_eq x y) [
        | inl q ↦
            ap (λ u. held u (i + 1)) (ap (λ k. get_or (set T y (Some (i + 1 + 0))) k None) q ∙ get_or-set_same T y (Some (i + 1 + 0)) None (omega (arith, t.long, t.size)))
            ∙ le-leb (i + 1 + 0) (i + 1) (omega arith)
        | inr ne ↦
            ap (λ u. held u (i + 1)) (get_or-set_other T y x (Some (i + 1 + 0)) None ne)
            ∙ held_later (get_or T x None) i (t.filled x (sym (get_or-set_other s y x true false ne) ∙ f) o)
      ];
  empty = λ x e o.
      (let u = unfilled s y x lt e in ap is_none (get_or-set_other T y x (Some (i + 1 + 0)) None (λ q. u.0 (sym q))) ∙ t.empty x u.1 o);
}

-- the operand's slot is none of these
abbrev Free : Operand → (ℕ → Type 0) → Type 0
Free (Fresh y) Off = Off y → ⊥
Free (Known y) Off = Off y → ⊥
Free (Constant c) Off = Unit {0}

free_none : (o : Operand) → Free o None_off
free_none (Fresh y) = λ x. x
free_none (Known y) = λ x. x
free_none (Constant c) = tt

-- a slot that is still empty afterwards is not the operand's
free_due : (o : Operand) (s : List Bool) (z : ℕ) → Fits o s → Empty (fill o s) z → Free o (λ y. y ≡ z)
free_due (Fresh y) s z f e = (unfilled s y z (empty_in s y f) e).0
free_due (Known y) s z f e = λ q. not_both s z e (subst (Filled s) q f)
free_due (Constant c) s z f e = tt

module _ (sig : Signature) (ar : List ℕ) (same : (f : ℕ) → get_or ar f 0 ≡ arity_at sig f) (n : ℕ) where
  -- an instruction with an operand
  by_operand : (o : Operand) (i : ℕ) (s : List Bool) (T : List (Option ℕ)) (Off : ℕ → Type 0) (ws : List Instruction) → Ties i s T n Off → Fits o s → Free o Off
      → ((T' : List (Option ℕ)) → Ties (i + 1) (fill o s) T' n Off → ((x : ℕ) → Off x → get_or T' x None ≡ get_or T x None) → slot_pass n ar (i + 1) T' ws ≡ true)
      → (can_read T i (known o) && (can_set T (fresh o) && slot_pass n ar (i + 1) (marked T (fresh o) (i + 1 + 0)) ws)) ≡ true
  by_operand (Fresh y) i s T Off ws t f off go =
      and_from _ _ (t.empty y f off)
      (go (set T y (Some (i + 1 + 0))) (filled_now i y (empty_in s y f) t) (λ x h. get_or-set_other T y x (Some (i + 1 + 0)) None (λ q. off (subst Off q h))))
  by_operand (Known y) i s T Off ws t f off go = and_from _ _ (t.filled y f off) (go T (later i t) (λ x h. refl))
  by_operand (Constant c) i s T Off ws t f off go = go T (later i t) (λ x h. refl)

  -- put_structure's slot waits
  waiting : (i y m : ℕ) (s : List Bool) (T : List (Option ℕ)) → Ties i s T n None_off → Ties (i + 1) s (set T y (Some m)) n (λ x. x ≡ y)
  waiting i y m s T t = record {
    size = t.size;
    long = omega (arith, t.long, length-set T y (Some m));
    filled = λ x f o. ap (λ u. held u (i + 1)) (get_or-set_other T y x (Some m) None o) ∙ held_later (get_or T x None) i (t.filled x f (λ z. z));
    empty = λ x e o. ap is_none (get_or-set_other T y x (Some m) None o) ∙ t.empty x e (λ z. z);
  }

  -- it is set after its words
  arrived : (i z : ℕ) (s : List Bool) (T : List (Option ℕ)) → z < length s → Ties i s T n (λ x. x ≡ z) → get_or T z None ≡ Some i → Ties i (set s z true) T n None_off
  arrived i z s T lt t at = record {
    size = length-set s z true ∙ t.size;
    long = t.long;
    filled = λ x f o.
        elim (cases_eq x z) [
          | inl q ↦ ap (λ u. held u i) (ap (λ k. get_or T k None) q ∙ at) ∙ le-leb i i (omega arith)
          | inr ne ↦ t.filled x (sym (get_or-set_other s z x true false ne) ∙ f) ne
        ];
    empty = λ x e o. (let u = unfilled s z x lt e in t.empty x u.1 (λ q. u.0 (sym q)));
  }

  abbrev State : ℕ → ℕ → ℕ → List Bool → List (Option ℕ) → Type 0
  State zero z i s T = Ties i s T n None_off
  State (suc k) z i s T = Ties i s T n (λ y. y ≡ z) × (get_or T z None ≡ Some (i + suc k))

  pass : (ws : List Instruction) (k z i : ℕ) (s : List Bool) (T : List (Option ℕ)) → Orderly sig k z ws s → Lawfuls sig ws → State k z i s T → slot_pass n ar i T ws ≡ true
  pass [] zero z i s T h l t =
      below_all n _ (λ y lt. held_some (get_or T y None) i (t.filled y (h y (omega (arith, t.size))) (λ q. q)))
  pass [] (suc k) z i s T h l t = absurd h
  pass (Allocate m ∷ ws) zero z i s T h l t = pass ws 0 0 (i + 1) s T h.1 l.1 (later i t)
  pass (Get o a ∷ ws) zero z i s T h l t = by_operand o i s T None_off ws t h.0 (free_none o) (λ T' t' kept. pass ws 0 0 (i + 1) (fill o s) T' h.1 l.1 t')
  pass (GetStructure y f ∷ ws) zero z i s T h l t = and_from _ _ (t.filled y h.0 (λ q. q)) (pass ws 0 0 (i + 1) s T h.1 l.1 (later i t))
  pass (Unify o ∷ ws) zero z i s T h l t = by_operand o i s T None_off ws t h.0 (free_none o) (λ T' t' kept. pass ws 0 0 (i + 1) (fill o s) T' h.1 l.1 t')
  pass (Put o a ∷ ws) zero z i s T h l t = by_operand o i s T None_off ws t h.0 (free_none o) (λ T' t' kept. pass ws 0 0 (i + 1) (fill o s) T' h.1 l.1 t')
  pass (Set o ∷ ws) zero z i s T h l t = by_operand o i s T None_off ws t h.0 (free_none o) (λ T' t' kept. pass ws 0 0 (i + 1) (fill o s) T' h.1 l.1 t')
  pass (Call p ∷ ws) zero z i s T h l t = pass ws 0 0 (i + 1) s T h.1 l.1 (later i t)
  pass (Proceed ∷ ws) zero z i s T h l t = pass ws 0 0 (i + 1) s T h.1 l.1 (later i t)
  pass (PutStructure y f ∷ ws) zero z i s T h l t =
      let from : (m : ℕ) → arity_at sig f ≡ suc m → Empty s y = λ m e. due_empty sig m y ws s (subst (λ k. Orderly sig k y ws s) e h.1) in
      let m : ℕ = arity_at sig f - 1 in
      let e : arity_at sig f ≡ suc m = (let q = l.0.1 in omega arith) in
      let empty = from m e in
      and_from _ _ (t.empty y empty (λ q. q))
      (ap (λ k. slot_pass n ar (i + 1) (set T y (Some (i + 1 + k))) ws) (same f ∙ e)
      ∙ pass ws (suc m) y (i + 1) s (set T y (Some (i + 1 + suc m))) (subst (λ k. Orderly sig k y ws s) e h.1) l.1
      (waiting i y (i + 1 + suc m) s T t, get_or-set_same T y (Some (i + 1 + suc m)) None (omega (arith, t.long, t.size, empty_in s y empty))))
  pass (Set o ∷ ws) (suc zero) z i s T h l t =
      by_operand o i s T (λ y. y ≡ z) ws t.0 h.1 (free_due o s z h.1 h.2) (λ T' t' kept.
      pass ws 0 0 (i + 1) (set (fill o s) z true) T' h.3 l.1
      (arrived (i + 1) z (fill o s) T' (empty_in (fill o s) z h.2) t' (kept z refl ∙ t.1)))
  pass (Set o ∷ ws) (suc (suc k)) z i s T h l t =
      by_operand o i s T (λ y. y ≡ z) ws t.0 h.1 (free_due o s z h.1 (due_empty sig k z ws (fill o s) h.2)) (λ T' t' kept.
      pass ws (suc k) z (i + 1) (fill o s) T' h.2 l.1 (t', kept z refl ∙ t.1 ∙ ap Some (let e : i + suc (suc k) ≡ i + 1 + suc k = omega arith in e)))
  pass (Allocate n ∷ ws) (suc zero) z i s T h l t = absurd h.0
  pass (Allocate n ∷ ws) (suc (suc k)) z i s T h l t = absurd h.0
  pass (Get o a ∷ ws) (suc zero) z i s T h l t = absurd h.0
  pass (Get o a ∷ ws) (suc (suc k)) z i s T h l t = absurd h.0
  pass (GetStructure x f ∷ ws) (suc zero) z i s T h l t = absurd h.0
  pass (GetStructure x f ∷ ws) (suc (suc k)) z i s T h l t = absurd h.0
  pass (Unify o ∷ ws) (suc zero) z i s T h l t = absurd h.0
  pass (Unify o ∷ ws) (suc (suc k)) z i s T h l t = absurd h.0
  pass (Put o a ∷ ws) (suc zero) z i s T h l t = absurd h.0
  pass (Put o a ∷ ws) (suc (suc k)) z i s T h l t = absurd h.0
  pass (PutStructure x f ∷ ws) (suc zero) z i s T h l t = absurd h.0
  pass (PutStructure x f ∷ ws) (suc (suc k)) z i s T h l t = absurd h.0
  pass (Call p ∷ ws) (suc zero) z i s T h l t = absurd h.0
  pass (Call p ∷ ws) (suc (suc k)) z i s T h l t = absurd h.0
  pass (Proceed ∷ ws) (suc zero) z i s T h l t = absurd h.0
  pass (Proceed ∷ ws) (suc (suc k)) z i s T h l t = absurd h.0

-- code that fills its slots in order, from none on
abbrev none : List (Option ℕ)
none = replicate 256 None

none_at : (y : ℕ) → get_or none y None ≡ None
none_at y = elim (cases_lt y 256) [ inl l ↦ get_or-replicate 256 y None None l | inr g ↦ get_or_past none y None (let e : length none ≡ 256 = length-replicate {A = Option ℕ} 256 None in omega arith) ]

pub slots_kept : (sig : Signature) (ar : List ℕ) (same : (f : ℕ) → get_or ar f 0 ≡ arity_at sig f) (n : ℕ) (ws : List Instruction) → n ≤ 256 → Orderly sig 0 0 ws (replicate n false) → Lawfuls sig ws
    → slot_pass n ar 0 none ws ≡ true
slots_kept sig ar same n ws few h l =
    pass sig ar same n ws 0 0 0 (replicate n false) none h l (record {
      size = length-replicate n false;
      long = (let e : length none ≡ 256 = length-replicate {A = Option ℕ} 256 None in omega arith);
      filled = λ y f o.
          (let a : get_or (replicate n false) y false ≡ false = elim (cases_lt y n) [ inl lt ↦ get_or-replicate n y false false lt | inr g ↦ get_or_past (replicate n false) y false (omega (arith, length-replicate n false)) ] in
          let z : true ≡ false = sym f ∙ a in
          let q : ◌≡◌ {A = ℕ} 0 1 = cc in absurd (omega arith));
      empty = λ y e o. ap is_none (none_at y);
    })

-- slots below m
abbrev pub Low : ℕ → Operand → Type 0
Low m (Fresh y) = y < m
Low m (Known y) = y < m
Low m (Constant c) = Unit {0}

abbrev pub Inside : ℕ → Instruction → Type 0
Inside m (Allocate n) = Unit {0}
Inside m (Get o a) = Low m o
Inside m (GetStructure y f) = y < m
Inside m (Unify o) = Low m o
Inside m (Put o a) = Low m o
Inside m (PutStructure y f) = y < m
Inside m (Set o) = Low m o
Inside m (Call p) = Unit {0}
Inside m Proceed = Unit {0}

abbrev pub Insides : ℕ → List Instruction → Type 0
Insides m [] = Unit {0}
Insides m (w ∷ ws) = Inside m w × Insides m ws

low : (o : Operand) (s : List Bool) → Fits o s → Low (length s) o
low (Fresh y) s f = empty_in s y f
low (Known y) s f = filled_in s y f
low (Constant c) s f = tt

pub slots_inside : (sig : Signature) (ws : List Instruction) (k z : ℕ) (s : List Bool) → Orderly sig k z ws s → Lawfuls sig ws → Insides (length s) ws
slots_inside sig [] k z s h l = tt
slots_inside sig (Allocate n ∷ ws) zero z s h l = (tt, slots_inside sig ws 0 0 s h.1 l.1)
slots_inside sig (Get o a ∷ ws) zero z s h l = (low o s h.0, subst (λ m. Insides m ws) (fill_long o s) (slots_inside sig ws 0 0 (fill o s) h.1 l.1))
slots_inside sig (GetStructure y f ∷ ws) zero z s h l = (filled_in s y h.0, slots_inside sig ws 0 0 s h.1 l.1)
slots_inside sig (Unify o ∷ ws) zero z s h l = (low o s h.0, subst (λ m. Insides m ws) (fill_long o s) (slots_inside sig ws 0 0 (fill o s) h.1 l.1))
slots_inside sig (Put o a ∷ ws) zero z s h l = (low o s h.0, subst (λ m. Insides m ws) (fill_long o s) (slots_inside sig ws 0 0 (fill o s) h.1 l.1))
slots_inside sig (Set o ∷ ws) zero z s h l = (low o s h.0, subst (λ m. Insides m ws) (fill_long o s) (slots_inside sig ws 0 0 (fill o s) h.1 l.1))
slots_inside sig (Call p ∷ ws) zero z s h l = (tt, slots_inside sig ws 0 0 s h.1 l.1)
slots_inside sig (Proceed ∷ ws) zero z s h l = (tt, slots_inside sig ws 0 0 s h.1 l.1)
slots_inside sig (PutStructure y f ∷ ws) zero z s h l =
    let m : ℕ = arity_at sig f - 1 in
    let e : arity_at sig f ≡ suc m = (let q = l.0.1 in omega arith) in
    (empty_in s y (due_empty sig m y ws s (subst (λ k. Orderly sig k y ws s) e h.1)), slots_inside sig ws (arity_at sig f) y s h.1 l.1)
slots_inside sig (Set o ∷ ws) (suc zero) z s h l =
    (low o s h.1, subst (λ m. Insides m ws) (length-set (fill o s) z true ∙ fill_long o s) (slots_inside sig ws 0 0 (set (fill o s) z true) h.3 l.1))
slots_inside sig (Set o ∷ ws) (suc (suc k)) z s h l = (low o s h.1, subst (λ m. Insides m ws) (fill_long o s) (slots_inside sig ws (suc k) z (fill o s) h.2 l.1))
slots_inside sig (Allocate n ∷ ws) (suc zero) z s h l = absurd h.0
slots_inside sig (Allocate n ∷ ws) (suc (suc k)) z s h l = absurd h.0
slots_inside sig (Get o a ∷ ws) (suc zero) z s h l = absurd h.0
slots_inside sig (Get o a ∷ ws) (suc (suc k)) z s h l = absurd h.0
slots_inside sig (GetStructure y f ∷ ws) (suc zero) z s h l = absurd h.0
slots_inside sig (GetStructure y f ∷ ws) (suc (suc k)) z s h l = absurd h.0
slots_inside sig (Unify o ∷ ws) (suc zero) z s h l = absurd h.0
slots_inside sig (Unify o ∷ ws) (suc (suc k)) z s h l = absurd h.0
slots_inside sig (Put o a ∷ ws) (suc zero) z s h l = absurd h.0
slots_inside sig (Put o a ∷ ws) (suc (suc k)) z s h l = absurd h.0
slots_inside sig (PutStructure y f ∷ ws) (suc zero) z s h l = absurd h.0
slots_inside sig (PutStructure y f ∷ ws) (suc (suc k)) z s h l = absurd h.0
slots_inside sig (Call p ∷ ws) (suc zero) z s h l = absurd h.0
slots_inside sig (Call p ∷ ws) (suc (suc k)) z s h l = absurd h.0
slots_inside sig (Proceed ∷ ws) (suc zero) z s h l = absurd h.0
slots_inside sig (Proceed ∷ ws) (suc (suc k)) z s h l = absurd h.0
