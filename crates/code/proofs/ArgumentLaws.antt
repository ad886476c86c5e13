-- V6 as a pass.
use Rattle.std.proofs.Common.{◌≡◌, ℕ, zero, suc, ◌+◌, ◌-◌, ◌<◌, ◌≤◌, min, Bool, true, false, cond, ◌&&◌, eqb, ltb, leb, List, [], ◌∷◌, map, length, get_or, drop, set, replicate, Some, None, Option, sym, refl, ap, ap₂, ◌∙◌, inl, inr, arith}
use Rattle.std.proofs.lemmas.List.{get_or-set_same, get_or-set_other, get_or-replicate, length-set, length-replicate, at_drop_more}
use Rattle.std.specs.List.{list_all, range_with_len}
use Rattle.std.proofs.lemmas.List.Folds.{list_all-map, list_all-append}
use Rattle.std.proofs.lemmas.List.FromFn.{map-range_with_len_more}
use Rattle.std.proofs.Math.Bool.{and-true}
use Rattle.std.proofs.lemmas.Bool.{eqb-true, eqb-false, eq-eqb, ne_eqb, and_parts, and_from, ltb-true, ltb-false, leb-true, leb-false, le-leb, le-ltb, lt-ltb, cases_eq, cases_lt, cond-true, cond-false}
use Rattle.code.specs.declared.instructions.Instruction.{Instruction}
use Rattle.code.specs.Instructions.{called, put}
use Rattle.code.specs.Words.{decode}
use Rattle.code.specs.Tests.{every, total, below, chosen}
use Rattle.code.specs.Rules.{filled, calls}
use Rattle.code.proofs.SlotLaws.{below_false}
use Rattle.code.specs.Passes.{onward, walk, bump, note_arg, wanted, full, notes, call_next}

pub both_true : (a b : Bool) → (a ≡ true → b ≡ true) → (b ≡ true → a ≡ true) → a ≡ b
both_true true b f g = sym (f refl)
both_true false true f g = g refl
both_true false false f g = refl

-- the library's test of the numbers below n
pub below_range : (n : ℕ) (p : ℕ → Bool) → list_all p (range_with_len 0 n) ≡ below n p
below_range zero p = refl
below_range (suc n) p =
    let more : suc n ≡ n + 1 = omega arith in
    ap (λ k. list_all p (range_with_len 0 k)) more
    ∙ sym (list_all-map (λ b. b) p (range_with_len 0 (n + 1)))
    ∙ ap (list_all (λ b. b)) (map-range_with_len_more p 0 n n (omega arith))
    ∙ list_all-append (λ b. b) (map p (range_with_len 0 n)) (p n ∷ [])
    ∙ ap₂ (λ (a b : Bool). a && b) (list_all-map (λ b. b) p (range_with_len 0 n) ∙ below_range n p) (and-true (p n))

pub below_at : (n : ℕ) (p : ℕ → Bool) → below n p ≡ true → (a : ℕ) → a < n → p a ≡ true
below_at zero p h a l = absurd (omega arith)
below_at (suc n) p h a l =
    let q = and_parts (below n p) (p n) h in
    elim (cases_eq a n) [ inl e ↦ ap p e ∙ q.1 | inr ne ↦ below_at n p q.0 a (omega arith) ]

pub below_all : (n : ℕ) (p : ℕ → Bool) → ((a : ℕ) → a < n → p a ≡ true) → below n p ≡ true
below_all zero p h = refl
below_all (suc n) p h = and_from (below n p) (p n) (below_all n p (λ a l. h a (omega arith))) (h n (omega arith))

abbrev met : (Instruction → ℕ) → List Instruction → ℕ → ℕ
met arg ws a = total (λ w. eqb (arg w) a) ws

-- the counts stand for the numbers N
pub record Stands (counts : List ℕ) (N : ℕ → ℕ) : Type 0 where
  pub long : length counts ≡ 9
  pub counted : (a : ℕ) → a ≤ 8 → get_or counts a 0 ≡ min 2 (N a)

bumped : (t : ℕ) → bump (min 2 t) ≡ min 2 (suc t)
bumped t = go (ltb (min 2 t) 2) refl
  where
    go : (b : Bool) → ltb (min 2 t) 2 ≡ b → cond b (min 2 t + 1) (min 2 t) ≡ min 2 (suc t)
    go true e = let l = ltb-true (min 2 t) 2 e in omega arith
    go false e = let l = ltb-false (min 2 t) 2 e in omega arith

pub stands_noted : (counts : List ℕ) (N M : ℕ → ℕ) (b : ℕ) → Stands counts N → b ≤ 8 → ((a : ℕ) → M a ≡ cond (eqb b a) (suc (N a)) (N a)) → Stands (note_arg counts b) M
stands_noted counts N M b s l m =
    let v = bump (get_or counts b 0) in
    record {
      long = length-set counts b v ∙ s.long;
      counted = λ a h. elim (cases_eq b a) [
        | inl e ↦
            let q : get_or (set counts b v) a 0 ≡ v = ap (λ k. get_or (set counts b v) k 0) (sym e) ∙ get_or-set_same counts b v 0 (let x = s.long in omega arith) in
            let u : v ≡ min 2 (suc (N b)) = ap bump (s.counted b l) ∙ bumped (N b) in
            let y : M a ≡ suc (N a) = m a ∙ cond-true (eqb b a) _ _ (eq-eqb b a e) in
            q ∙ u ∙ ap (λ k. min 2 (suc (N k))) e ∙ ap (min 2) (sym y)
        | inr ne ↦
            let y : M a ≡ N a = m a ∙ cond-false (eqb b a) _ _ (ne_eqb b a ne) in
            get_or-set_other counts b a v 0 (λ x. ne (sym x)) ∙ s.counted a h ∙ ap (min 2) (sym y)
      ];
    }

abbrev nones : List ℕ
nones = replicate 9 0

pub stands_none : (N : ℕ → ℕ) → ((a : ℕ) → N a ≡ 0) → Stands nones N
stands_none N z = record { long = length-replicate {A = ℕ} 9 0; counted = λ a h. get_or-replicate {A = ℕ} 9 a 0 0 (omega arith) ∙ ap (min 2) (sym (z a)) }

abbrev pub once : ℕ → List ℕ → Bool
once m counts = below 8 (λ a. eqb (get_or counts (a + 1) 0) (wanted m a))

module _ (arg : Instruction → ℕ) (m : ℕ) (low : m ≤ 8) where
  none_beyond : (ws : List Instruction) (b : ℕ) → every (λ w. leb (arg w) m) ws ≡ true → m < b → met arg ws b ≡ 0
  none_beyond [] b h l = refl
  none_beyond (w ∷ ws) b h l =
      let p = and_parts (leb (arg w) m) (every (λ w. leb (arg w) m) ws) h in
      let k = leb-true (arg w) m p.0 in
      cond-false (eqb (arg w) b) _ _ (ne_eqb (arg w) b (λ e. omega arith)) ∙ none_beyond ws b p.1 l

  less : (b : ℕ) (w : Instruction) (ws : List Instruction) → met arg (w ∷ ws) b ≡ 0 → (met arg ws b ≡ 0) × (arg w ≡ b → ⊥)
  less b w ws e = go (eqb (arg w) b) refl e
    where
      go : (t : Bool) → eqb (arg w) b ≡ t → cond t (suc (met arg ws b)) (met arg ws b) ≡ 0 → (met arg ws b ≡ 0) × (arg w ≡ b → ⊥)
      go true q z = absurd (omega arith)
      go false q z = (z, eqb-false (arg w) b q)

  all_within : (ws : List Instruction) → every (λ w. leb (arg w) 8) ws ≡ true → ((b : ℕ) → m < b → b ≤ 8 → met arg ws b ≡ 0) → every (λ w. leb (arg w) m) ws ≡ true
  all_within [] h f = refl
  all_within (w ∷ ws) h f =
      let p = and_parts (leb (arg w) 8) (every (λ w. leb (arg w) 8) ws) h in
      let k = leb-true (arg w) 8 p.0 in
      and_from (leb (arg w) m) (every (λ w. leb (arg w) m) ws)
      (elim (cases_lt m (arg w)) [ inl l ↦ absurd ((less (arg w) w ws (f (arg w) l k)).1 refl) | inr g ↦ le-leb (arg w) m g ])
      (all_within ws p.1 (λ b l u. (less b w ws (f b l u)).0))

  once_is : (counts : List ℕ) (ws : List Instruction) → Stands counts (met arg ws) → every (λ w. leb (arg w) 8) ws ≡ true → once m counts ≡ filled arg m ws
  once_is counts ws s small = both_true (once m counts) (filled arg m ws) into back
    where
      into : once m counts ≡ true → filled arg m ws ≡ true
      into h =
          and_from (below m (λ a. eqb (met arg ws (a + 1)) 1)) (every (λ w. leb (arg w) m) ws)
          (below_all m (λ a. eqb (met arg ws (a + 1)) 1) (λ a l.
          let q = eqb-true (get_or counts (a + 1) 0) (wanted m a) (below_at 8 (λ a. eqb (get_or counts (a + 1) 0) (wanted m a)) h a (omega arith)) in
          let one : wanted m a ≡ 1 = cond-true (ltb a m) 1 0 (lt-ltb a m l) in
          let n = s.counted (a + 1) (omega arith) in
          eq-eqb (met arg ws (a + 1)) 1 (omega arith)))
          (all_within ws small (λ b l u.
          let a = b - 1 in
          let k : a + 1 ≡ b = omega arith in
          let q = eqb-true (get_or counts (a + 1) 0) (wanted m a) (below_at 8 (λ a. eqb (get_or counts (a + 1) 0) (wanted m a)) h a (omega arith)) in
          let none : wanted m a ≡ 0 = cond-false (ltb a m) 1 0 (le-ltb a m (omega arith)) in
          let n = s.counted (a + 1) (omega arith) in
          let z : met arg ws (a + 1) ≡ 0 = omega arith in
          ap (met arg ws) (sym k) ∙ z))

      back : filled arg m ws ≡ true → once m counts ≡ true
      back h =
          let p = and_parts (below m (λ a. eqb (met arg ws (a + 1)) 1)) (every (λ w. leb (arg w) m) ws) h in
          below_all 8 (λ a. eqb (get_or counts (a + 1) 0) (wanted m a)) (λ a l.
          let n = s.counted (a + 1) (omega arith) in
          elim (cases_lt a m) [
            | inl k ↦
                let q = eqb-true (met arg ws (a + 1)) 1 (below_at m (λ a. eqb (met arg ws (a + 1)) 1) p.0 a k) in
                let one : wanted m a ≡ 1 = cond-true (ltb a m) 1 0 (lt-ltb a m k) in
                eq-eqb (get_or counts (a + 1) 0) (wanted m a) (omega arith)
            | inr g ↦
                let q = none_beyond ws (a + 1) p.1 (omega arith) in
                let none : wanted m a ≡ 0 = cond-false (ltb a m) 1 0 (le-ltb a m g) in
                eq-eqb (get_or counts (a + 1) 0) (wanted m a) (omega arith)
          ])

-- no argument beyond the last is met, so none of more than there are is filled
full_is : (arg : Instruction → ℕ) (m : ℕ) (counts : List ℕ) (ws : List Instruction) → Stands counts (met arg ws) → every (λ w. leb (arg w) 8) ws ≡ true → full m counts ≡ filled arg m ws
full_is arg m counts ws s small = go (leb m 8) refl
  where
    go : (t : Bool) → leb m 8 ≡ t → (t && once m counts) ≡ filled arg m ws
    go true e = once_is arg m (leb-true m 8 e) counts ws s small
    go false e =
        let l = leb-false m 8 e in
        let z = none_beyond arg 8 (omega arith) ws 9 small (omega arith) in
        sym (ap (λ t. t && every (λ w. leb (arg w) m) ws) (below_false m (λ a. eqb (met arg ws (a + 1)) 1) 8 (omega arith) (ap (λ n. eqb n 1) z)))

-- the head
pub stands_notes : (arg : Instruction → ℕ) (ws : List Instruction) (counts : List ℕ) (N M : ℕ → ℕ) → Stands counts N → every (λ w. leb (arg w) 8) ws ≡ true → ((a : ℕ) → M a ≡ met arg ws a + N a) → Stands (notes arg counts ws) M
stands_notes arg [] counts N M s h m = record { long = s.long; counted = λ a l. s.counted a l ∙ ap (min 2) (let e = m a in let q : N a ≡ M a = omega arith in q) }
stands_notes arg (w ∷ ws) counts N M s h m =
    let p = and_parts (leb (arg w) 8) (every (λ w. leb (arg w) 8) ws) h in
    let K : ℕ → ℕ = λ a. cond (eqb (arg w) a) (suc (N a)) (N a) in
    stands_notes arg ws (note_arg counts (arg w)) K M (stands_noted counts N K (arg w) s (leb-true (arg w) 8 p.0) (λ a. refl)) p.1 (λ a. step a (eqb (arg w) a) refl)
  where
    step : (a : ℕ) (t : Bool) → eqb (arg w) a ≡ t → M a ≡ met arg ws a + cond (eqb (arg w) a) (suc (N a)) (N a)
    step a true e =
        let x : met arg (w ∷ ws) a ≡ suc (met arg ws a) = cond-true (eqb (arg w) a) _ _ e in
        let y : cond (eqb (arg w) a) (suc (N a)) (N a) ≡ suc (N a) = cond-true (eqb (arg w) a) _ _ e in
        let z = m a in omega arith
    step a false e =
        let x : met arg (w ∷ ws) a ≡ met arg ws a = cond-false (eqb (arg w) a) _ _ e in
        let y : cond (eqb (arg w) a) (suc (N a)) (N a) ≡ N a = cond-false (eqb (arg w) a) _ _ e in
        let z = m a in omega arith

pub head_is : (arg : Instruction → ℕ) (m : ℕ) (ws : List Instruction) → every (λ w. leb (arg w) 8) ws ≡ true → full m (notes arg nones ws) ≡ filled arg m ws
head_is arg m ws h =
    full_is arg m (notes arg nones ws) ws (stands_notes arg ws nones (λ a. 0) (met arg ws) (stands_none (λ a. 0) (λ a. refl)) h (λ a. omega arith)) h

-- the calls
pub every_at : (xs : List ℕ) → every (λ a. leb a 8) xs ≡ true → (i : ℕ) → get_or xs i 0 ≤ 8
every_at [] h i = omega arith
every_at (x ∷ xs) h zero = leb-true x 8 (and_parts (leb x 8) (every (λ a. leb a 8) xs) h).0
every_at (x ∷ xs) h (suc i) = every_at xs (and_parts (leb x 8) (every (λ a. leb a 8) xs) h).1 i

abbrev pub done : List ℕ → Bool
done counts = true

module _ (ar : List ℕ) where
  turn : (counts : List ℕ) (since : List Instruction) (w : Instruction) (ws : List Instruction) → Stands counts (met put since) → every (λ w. leb (put w) 8) since ≡ true → (o : Option ℕ) → called w ≡ o
      → walk (call_next ar) done nones ws ≡ calls ar [] ws
      → walk (call_next ar) done (note_arg counts (put w)) ws ≡ calls ar (w ∷ since) ws
      → onward (chosen o (λ p. cond (full (get_or ar p 0) counts) (Some nones) None) (Some (note_arg counts (put w)))) (λ t. walk (call_next ar) done t ws)
      ≡ chosen o (λ p. filled put (get_or ar p 0) since && calls ar [] ws) (calls ar (w ∷ since) ws)
  turn counts since w ws s h None e a b = b
  turn counts since w ws s h (Some p) e a b =
      go (full (get_or ar p 0) counts) ∙ ap (λ t. t && calls ar [] ws) (full_is put (get_or ar p 0) counts since s h)
    where
      go : (t : Bool) → onward (cond t (Some nones) None) (λ t. walk (call_next ar) done t ws) ≡ (t && calls ar [] ws)
      go true = a
      go false = refl

  pub calls_are : (ws : List Instruction) (counts : List ℕ) (since : List Instruction) → Stands counts (met put since) → every (λ w. leb (put w) 8) since ≡ true → every (λ w. leb (put w) 8) ws ≡ true
      → walk (call_next ar) done counts ws ≡ calls ar since ws
  calls_are [] counts since s h k = refl
  calls_are (w ∷ ws) counts since s h k =
      let p = and_parts (leb (put w) 8) (every (λ w. leb (put w) 8) ws) k in
      turn counts since w ws s h (called w) refl
      (calls_are ws nones [] (stands_none (met put []) (λ a. refl)) refl p.1)
      (calls_are ws (note_arg counts (put w)) (w ∷ since) (stands_noted counts (met put since) (met put (w ∷ since)) (put w) s (leb-true (put w) 8 p.0) (λ a. refl))
      (and_from (leb (put w) 8) (every (λ w. leb (put w) 8) since) p.0 h) p.1)

  pub calls_start : (ws : List Instruction) → every (λ w. leb (put w) 8) ws ≡ true → walk (call_next ar) done nones ws ≡ calls ar [] ws
  calls_start ws k = calls_are ws nones [] (stands_none (met put []) (λ a. refl)) refl k

-- an argument by the word's place
pub arg_at : (arg : Instruction → ℕ) (ws : List ℕ) (i : ℕ) → every (λ w. leb (arg w) 8) (map decode ws) ≡ true → i < length ws → arg (decode (get_or ws i 0)) ≤ 8
arg_at arg [] i h l = absurd (omega arith)
arg_at arg (w ∷ ws) zero h l = leb-true (arg (decode w)) 8 (and_parts (leb (arg (decode w)) 8) (every (λ w. leb (arg w) 8) (map decode ws)) h).0
arg_at arg (w ∷ ws) (suc i) h l = arg_at arg ws i (and_parts (leb (arg (decode w)) 8) (every (λ w. leb (arg w) 8) (map decode ws)) h).1 (omega arith)

pub notes_turn : (arg : Instruction → ℕ) (ws : List ℕ) (i : ℕ) (counts next : List ℕ) → i < length ws → next ≡ note_arg counts (arg (decode (get_or ws i 0)))
    → notes arg counts (map decode (drop i ws)) ≡ notes arg next (map decode (drop (i + 1) ws))
notes_turn arg ws i counts next h e =
    at_drop_more (λ l. notes arg counts (map decode l)) ws i 0 h ∙ ap (λ (l : List ℕ). notes arg l (map decode (drop (i + 1) ws))) (sym e)
