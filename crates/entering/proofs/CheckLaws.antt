-- Code that keeps the rules is ready to run.
use Rattle.std.proofs.Common.{◌≡◌, ℕ, zero, suc, ◌+◌, ◌-◌, ◌<◌, ◌≤◌, Bool, true, false, cond, ◌&&◌, ◌||◌, eqb, ltb, leb, ◌≢◌, List, [], ◌∷◌, map, length, get_or, sym, refl, ap, ◌∙◌, subst, inl, inr, arith}
use native.Mathlib.Decide.{ℕ_discrete, dec_lt}
use lib.ListN.{length-map}
use Rattle.std.proofs.lemmas.Bool.{and_parts, eqb-true, leb-true, ltb-true}
use Rattle.code.specs.declared.instructions.Operand.{Operand}
use Rattle.code.specs.declared.instructions.Operand.TheVariants.{Fresh, Known, Constant}
use Rattle.code.specs.declared.instructions.Instruction.{Instruction}
use Rattle.code.specs.declared.instructions.Instruction.TheVariants.{Allocate, Get, GetStructure, Unify, Put, PutStructure, Set, Call, Proceed}
use Rattle.code.specs.Instructions.{number, within, got, put}
use Rattle.code.specs.Tests.{every, total, run, along, below}
use Rattle.code.specs.Words.{decode}
use Rattle.code.specs.Rules.{opened, ranged, unifies, builds, closes, v2, v4, filled}
use Rattle.code.specs.Rules.{calls as calls_kept}
use Rattle.code.proofs.RangeLaws.{all_ranged}
use Rattle.entering.specs.Turns.{Takes}
use Rattle.entering.specs.Ready.{In, Piece, Pieces, Ready, price, dues, leaves, calls}
use Rattle.entering.specs.Checks.{Extends, Runnable}

never : {A : Type 0} → false ≡ true → A
never e = let z : ◌≡◌ {A = ℕ} 0 1 = cc in absurd (omega arith)

-- the arguments that are put
abbrev puts : List Instruction → List ℕ
puts [] = []
puts (Put o a ∷ ws) = a ∷ puts ws
puts (Allocate n ∷ ws) = puts ws
puts (Get o a ∷ ws) = puts ws
puts (GetStructure y f ∷ ws) = puts ws
puts (Unify o ∷ ws) = puts ws
puts (PutStructure y f ∷ ws) = puts ws
puts (Set o ∷ ws) = puts ws
puts (Call p ∷ ws) = puts ws
puts (Proceed ∷ ws) = puts ws

-- one of them is counted
other_put : (a : ℕ) (ws : List Instruction) → 0 < a → (0 < total (λ w. eqb (put w) a) ws → In a (puts ws)) → 0 < cond (eqb 0 a) (suc (total (λ w. eqb (put w) a) ws)) (total (λ w. eqb (put w) a) ws) → In a (puts ws)
other_put a ws pos ih h = go (eqb 0 a) refl h
  where
    go : (b : Bool) → eqb 0 a ≡ b → 0 < cond b (suc (total (λ w. eqb (put w) a) ws)) (total (λ w. eqb (put w) a) ws) → In a (puts ws)
    go true e l = absurd (let q = eqb-true 0 a e in omega arith)
    go false e l = ih l

total_in : (a : ℕ) (ws : List Instruction) → 0 < a → 0 < total (λ w. eqb (put w) a) ws → In a (puts ws)
total_in a [] pos h = absurd (omega arith)
total_in a (Put o b ∷ ws) pos h =
    go (eqb b a) refl h (total_in a ws pos)
  where
    go : (t : Bool) → eqb b a ≡ t → 0 < cond t (suc (total (λ w. eqb (put w) a) ws)) (total (λ w. eqb (put w) a) ws) → (0 < total (λ w. eqb (put w) a) ws → In a (puts ws)) → In a (b ∷ puts ws)
    go true e l ih = inl (sym (eqb-true b a e))
    go false e l ih = inr (ih l)
total_in a (Allocate n ∷ ws) pos h = other_put a ws pos (total_in a ws pos) h
total_in a (Get o b ∷ ws) pos h = other_put a ws pos (total_in a ws pos) h
total_in a (GetStructure y f ∷ ws) pos h = other_put a ws pos (total_in a ws pos) h
total_in a (Unify o ∷ ws) pos h = other_put a ws pos (total_in a ws pos) h
total_in a (PutStructure y f ∷ ws) pos h = other_put a ws pos (total_in a ws pos) h
total_in a (Set o ∷ ws) pos h = other_put a ws pos (total_in a ws pos) h
total_in a (Call p ∷ ws) pos h = other_put a ws pos (total_in a ws pos) h
total_in a (Proceed ∷ ws) pos h = other_put a ws pos (total_in a ws pos) h

below_at : (m : ℕ) (p : ℕ → Bool) → below m p ≡ true → (a : ℕ) → a < m → p a ≡ true
below_at zero p h a l = absurd (omega arith)
below_at (suc m) p h a l =
    let q = and_parts (below m p) (p m) h in
    elim (ℕ_discrete a m) [ yes e ↦ ap p e ∙ q.1 | no ne ↦ below_at m p q.0 a (omega arith) ]

filled_in : (m : ℕ) (ws : List Instruction) → filled put m ws ≡ true → (a : ℕ) → 0 < a → a ≤ m → In a (puts ws)
filled_in m ws h a pos le =
    let q = and_parts (below m (λ a. eqb (total (λ w. eqb (put w) (a + 1)) ws) 1)) (every (λ w. leb (put w) m) ws) h in
    let one = eqb-true _ 1 (below_at m (λ a. eqb (total (λ w. eqb (put w) (a + 1)) ws) 1) q.0 (a - 1) (omega arith)) in
    let same : a - 1 + 1 ≡ a = omega arith in
    total_in a ws pos (let e : total (λ w. eqb (put w) (a - 1 + 1)) ws ≡ total (λ w. eqb (put w) a) ws = ap (λ z. total (λ w. eqb (put w) z) ws) same in omega arith)

-- a list that has 1 to m has m places
enough : (m : ℕ) (A : List ℕ) → ((a : ℕ) → 0 < a → a ≤ m → In a A) → m ≤ length A
enough zero A h = omega arith
enough (suc m) A h = let r = take_out (suc m) A (h (suc m) (omega arith) (omega arith)) in omega (arith, enough m r.0 (λ a pos le. r.2 a (h a pos (omega arith)) (λ e. omega arith)), r.1)
  where
    take_out : (a : ℕ) (A : List ℕ) → In a A → (B : List ℕ) × (length A ≡ suc (length B)) × ((b : ℕ) → In b A → b ≢ a → In b B)
    take_out a [] i = absurd i
    take_out a (x ∷ A) (inl e) = (A, refl, (λ b i ne. elim i [ inl q ↦ absurd (ne (q ∙ sym e)) | inr j ↦ j ]))
    take_out a (x ∷ A) (inr i) =
        let r = take_out a A i in
        (x ∷ r.0, ap suc r.1, (λ b j ne. elim j [ inl q ↦ inl q | inr k ↦ inr (r.2 b k ne) ]))

-- words of a structure
unify_piece : (w : Instruction) → within 6 8 w ≡ true → Piece w
unify_piece (Unify o) h = tt
unify_piece (Set o) h = tt
unify_piece (Allocate n) h = never h
unify_piece (Get (Fresh y) a) h = never h
unify_piece (Get (Known y) a) h = never h
unify_piece (Get (Constant c) a) h = never h
unify_piece (GetStructure y f) h = never h
unify_piece (Put (Fresh y) a) h = never h
unify_piece (Put (Known y) a) h = never h
unify_piece (Put (Constant c) a) h = never h
unify_piece (PutStructure y f) h = never h
unify_piece (Call p) h = never h
unify_piece Proceed h = never h

set_piece : (w : Instruction) → within 13 15 w ≡ true → Piece w
set_piece (Unify o) h = tt
set_piece (Set o) h = tt
set_piece (Allocate n) h = never h
set_piece (Get (Fresh y) a) h = never h
set_piece (Get (Known y) a) h = never h
set_piece (Get (Constant c) a) h = never h
set_piece (GetStructure y f) h = never h
set_piece (Put (Fresh y) a) h = never h
set_piece (Put (Known y) a) h = never h
set_piece (Put (Constant c) a) h = never h
set_piece (PutStructure y f) h = never h
set_piece (Call p) h = never h
set_piece Proceed h = never h

run_pieces : (p : Instruction → Bool) → ((w : Instruction) → p w ≡ true → Piece w) → (ws : List Instruction) (n : ℕ) → n ≤ run p ws → Pieces n ws
run_pieces p f ws zero h = tt
run_pieces p f [] (suc n) h = absurd (omega arith)
run_pieces p f (w ∷ ws) (suc n) h = go (p w) refl h (run_pieces p f ws n)
  where
    go : (t : Bool) → p w ≡ t → suc n ≤ cond t (suc (run p ws)) 0 → (n ≤ run p ws → Pieces n ws) → Piece w × Pieces n ws
    go true e l ih = (f w e, ih (omega arith))
    go false e l ih = absurd (omega arith)

module _ (ar table : List ℕ) (ext : Extends ar table) (n m : ℕ) where
  slot_in : (y : ℕ) (b : Bool) → (ltb y m && b) ≡ true → y < m
  slot_in y b h = ltb-true y m (and_parts (ltb y m) b h).0

  constant_in : (c : ℕ) → (ltb c (length ar) && eqb (get_or ar c 0) 0) ≡ true → (c < length table) × (get_or table c 0 ≡ 0)
  constant_in c h =
      let p = and_parts (ltb c (length ar)) (eqb (get_or ar c 0) 0) h in
      let e = ext c (ltb-true c (length ar) p.0) in
      (e.0, e.1 ∙ eqb-true (get_or ar c 0) 0 p.1)

  argument_in : (a : ℕ) → (leb 1 a && leb a 8) ≡ true → (0 < a) × (a ≤ 8)
  argument_in a h = let p = and_parts (leb 1 a) (leb a 8) h in (leb-true 1 a p.0, leb-true a 8 p.1)

  get_in : (o : Operand) (a : ℕ) → ranged m ar (Get o a) ≡ true → Takes table m o × (0 < a)
  get_in (Fresh y) a h = let p = and_parts (ltb y m) (leb 1 a && leb a 8) h in (ltb-true y m p.0, (argument_in a p.1).0)
  get_in (Known y) a h = let p = and_parts (ltb y m) (leb 1 a && leb a 8) h in (ltb-true y m p.0, (argument_in a p.1).0)
  get_in (Constant c) a h = let p = and_parts (leb 1 a && leb a 8) (ltb c (length ar) && eqb (get_or ar c 0) 0) h in (constant_in c p.1, (argument_in a p.0).0)

  put_in : (o : Operand) (a : ℕ) → ranged m ar (Put o a) ≡ true → Takes table m o × (a ≤ 8)
  put_in (Fresh y) a h = let p = and_parts (ltb y m) (leb 1 a && leb a 8) h in (ltb-true y m p.0, (argument_in a p.1).1)
  put_in (Known y) a h = let p = and_parts (ltb y m) (leb 1 a && leb a 8) h in (ltb-true y m p.0, (argument_in a p.1).1)
  put_in (Constant c) a h = let p = and_parts (leb 1 a && leb a 8) (ltb c (length ar) && eqb (get_or ar c 0) 0) h in (constant_in c p.1, (argument_in a p.0).1)

  unify_in : (o : Operand) → ranged m ar (Unify o) ≡ true → Takes table m o
  unify_in (Fresh y) h = slot_in y true h
  unify_in (Known y) h = slot_in y true h
  unify_in (Constant c) h = constant_in c h

  set_in : (o : Operand) → ranged m ar (Set o) ≡ true → Takes table m o
  set_in (Fresh y) h = slot_in y true h
  set_in (Known y) h = slot_in y true h
  set_in (Constant c) h = constant_in c h

  structure_in : (y f : ℕ) → (ltb y m && (ltb f (length ar) && leb 1 (get_or ar f 0))) ≡ true → (y < m) × (f < length ar)
  structure_in y f h =
      let p = and_parts (ltb y m) (ltb f (length ar) && leb 1 (get_or ar f 0)) h in
      (ltb-true y m p.0, ltb-true f (length ar) (and_parts (ltb f (length ar)) (leb 1 (get_or ar f 0)) p.1).0)

  abbrev rowed : Instruction → List Instruction → Bool
  rowed w ws = (within 6 8 w || eqb (run (within 6 8) ws) (unifies ar w)) && (within 13 15 w || eqb (run (within 13 15) ws) (builds ar w))

  -- r arguments may be put
  pub ready_from : (r : ℕ) → 8 < r → (code since : List Instruction) → every (ranged m ar) code ≡ true → along rowed code ≡ true → every (λ w. leb (got w) n) code ≡ true
      → calls_kept ar since code ≡ true → ((a : ℕ) → In a (puts since) → a ≤ 8) → Ready table n m r (puts since) code
  ready_from r wide [] since v1 v4 g c low = tt
  ready_from r wide (w ∷ code) since v1 v4 g c low = go w v1 v4 g c (λ since' x y. ready_from r wide code since' (and_parts (ranged m ar w) (every (ranged m ar) code) v1).1 (and_parts (rowed w code) (along rowed code) v4).1 (and_parts (leb (got w) n) (every (λ w. leb (got w) n) code) g).1 x y)
    where
      go : (w : Instruction) → every (ranged m ar) (w ∷ code) ≡ true → along rowed (w ∷ code) ≡ true → every (λ w. leb (got w) n) (w ∷ code) ≡ true → calls_kept ar since (w ∷ code) ≡ true
          → ((since' : List Instruction) → calls_kept ar since' code ≡ true → ((a : ℕ) → In a (puts since') → a ≤ 8) → Ready table n m r (puts since') code) → Ready table n m r (puts since) (w ∷ code)
      go (Allocate k) v1 v4 g c later = later (Allocate k ∷ since) c low
      go Proceed v1 v4 g c later = later (Proceed ∷ since) c low
      go (Get o a) v1 v4 g c later =
          let t = get_in o a (and_parts (ranged m ar (Get o a)) (every (ranged m ar) code) v1).0 in
          (t.1, leb-true a n (and_parts (leb a n) (every (λ w. leb (got w) n) code) g).0, t.0, later (Get o a ∷ since) c low)
      go (Unify o) v1 v4 g c later = (unify_in o (and_parts (ranged m ar (Unify o)) (every (ranged m ar) code) v1).0, later (Unify o ∷ since) c low)
      go (Set o) v1 v4 g c later = (set_in o (and_parts (ranged m ar (Set o)) (every (ranged m ar) code) v1).0, later (Set o ∷ since) c low)
      go (Put o a) v1 v4 g c later =
          let t = put_in o a (and_parts (ranged m ar (Put o a)) (every (ranged m ar) code) v1).0 in
          (omega (arith, t.1), t.0, later (Put o a ∷ since) c (λ b i. elim i [ inl e ↦ omega (arith, t.1) | inr j ↦ low b j ]))
      go (GetStructure y f) v1 v4 g c later =
          let t = structure_in y f (and_parts (ranged m ar (GetStructure y f)) (every (ranged m ar) code) v1).0 in
          let rows = (and_parts (rowed (GetStructure y f) code) (along rowed code) v4).0 in
          let e = eqb-true (run (within 6 8) code) (get_or ar f 0) (and_parts (eqb (run (within 6 8) code) (get_or ar f 0)) (eqb (run (within 13 15) code) 0) rows).0 in
          let x = ext f t.1 in
          (t.0, x.0, run_pieces (within 6 8) unify_piece code (get_or table f 0) (omega (arith, x.1)), later (GetStructure y f ∷ since) c low)
      go (PutStructure y f) v1 v4 g c later =
          let t = structure_in y f (and_parts (ranged m ar (PutStructure y f)) (every (ranged m ar) code) v1).0 in
          let rows = (and_parts (rowed (PutStructure y f) code) (along rowed code) v4).0 in
          let e = eqb-true (run (within 13 15) code) (get_or ar f 0) (and_parts (eqb (run (within 6 8) code) 0) (eqb (run (within 13 15) code) (get_or ar f 0)) rows).1 in
          let x = ext f t.1 in
          (t.0, x.0, run_pieces (within 13 15) set_piece code (get_or table f 0) (omega (arith, x.1)), later (PutStructure y f ∷ since) c low)
      go (Call p) v1 v4 g c later =
          let known = ltb-true p (length ar) (and_parts (ranged m ar (Call p)) (every (ranged m ar) code) v1).0 in
          let x = ext p known in
          let q = and_parts (filled put (get_or ar p 0) since) (calls_kept ar [] code) c in
          let has : (a : ℕ) → 0 < a → a ≤ get_or table p 0 → In a (puts since) = λ a pos le. filled_in (get_or ar p 0) since q.0 a pos (omega (arith, x.1)) in
          let small : get_or table p 0 < r = elim (dec_lt (get_or table p 0) 9) [ yes lt ↦ omega arith | no ge ↦ absurd (let nine = low 9 (has 9 (omega arith) (omega arith)) in omega arith) ] in
          (x.0, small, enough (get_or table p 0) (puts since) has, has, later [] q.1 (λ a i. absurd i))

-- what it costs
price_le : (w : Instruction) → price w ≤ 1
price_le (Allocate n) = omega arith
price_le (Get o a) = omega arith
price_le (GetStructure y f) = omega arith
price_le (Unify o) = omega arith
price_le (Put o a) = omega arith
price_le (PutStructure y f) = omega arith
price_le (Set o) = omega arith
price_le (Call p) = omega arith
price_le Proceed = omega arith

first_price : (w : Instruction) → eqb (number w) 1 ≡ true → price w ≡ 0
first_price (Allocate n) h = refl
first_price (Get (Fresh y) a) h = never h
first_price (Get (Known y) a) h = never h
first_price (Get (Constant c) a) h = never h
first_price (GetStructure y f) h = never h
first_price (Unify (Fresh y)) h = never h
first_price (Unify (Known y)) h = never h
first_price (Unify (Constant c)) h = never h
first_price (Put (Fresh y) a) h = never h
first_price (Put (Known y) a) h = never h
first_price (Put (Constant c) a) h = never h
first_price (PutStructure y f) h = never h
first_price (Set (Fresh y)) h = never h
first_price (Set (Known y)) h = never h
first_price (Set (Constant c)) h = never h
first_price (Call p) h = refl
first_price Proceed h = refl

last_price : (w : Instruction) → eqb (number w) 17 ≡ true → price w ≡ 0
last_price (Allocate n) h = refl
last_price (Get (Fresh y) a) h = never h
last_price (Get (Known y) a) h = never h
last_price (Get (Constant c) a) h = never h
last_price (GetStructure y f) h = never h
last_price (Unify (Fresh y)) h = never h
last_price (Unify (Known y)) h = never h
last_price (Unify (Constant c)) h = never h
last_price (Put (Fresh y) a) h = never h
last_price (Put (Known y) a) h = never h
last_price (Put (Constant c) a) h = never h
last_price (PutStructure y f) h = never h
last_price (Set (Fresh y)) h = never h
last_price (Set (Known y)) h = never h
last_price (Set (Constant c)) h = never h
last_price (Call p) h = refl
last_price Proceed h = refl

closes_dues : (ws : List Instruction) → closes ws ≡ true → dues ws + 1 ≤ length ws
closes_dues [] h = never h
closes_dues (w ∷ []) h = omega (arith, last_price w h)
closes_dues (w ∷ x ∷ ws) h = omega (arith, price_le w, closes_dues (x ∷ ws) (and_parts (within 2 16 w) (closes (x ∷ ws)) h).1)

call_is : (w : Instruction) → leaves w ≡ cond (within 16 16 w) 1 0
call_is (Allocate n) = refl
call_is (Get (Fresh y) a) = refl
call_is (Get (Known y) a) = refl
call_is (Get (Constant c) a) = refl
call_is (GetStructure y f) = refl
call_is (Unify (Fresh y)) = refl
call_is (Unify (Known y)) = refl
call_is (Unify (Constant c)) = refl
call_is (Put (Fresh y) a) = refl
call_is (Put (Known y) a) = refl
call_is (Put (Constant c) a) = refl
call_is (PutStructure y f) = refl
call_is (Set (Fresh y)) = refl
call_is (Set (Known y)) = refl
call_is (Set (Constant c)) = refl
call_is (Call p) = refl
call_is Proceed = refl

calls_total : (ws : List Instruction) → calls ws ≡ total (within 16 16) ws
calls_total [] = refl
calls_total (w ∷ ws) = go (within 16 16 w) (call_is w) (calls_total ws)
  where
    go : (t : Bool) → leaves w ≡ cond t 1 0 → calls ws ≡ total (within 16 16) ws → leaves w + calls ws ≡ cond t (suc (total (within 16 16) ws)) (total (within 16 16) ws)
    go true e ih = omega arith
    go false e ih = omega arith

v2_costs : (ws : List Instruction) → v2 ws ≡ true → (dues ws + 2 ≤ length ws) × (calls ws ≤ 8)
v2_costs [] h = never h
v2_costs (w ∷ ws) h =
    let p = and_parts (eqb (number w) 1 && closes ws) (leb (length ws) 129 && leb (total (within 16 16) ws) 8) h in
    let q = and_parts (eqb (number w) 1) (closes ws) p.0 in
    let few = leb-true (total (within 16 16) ws) 8 (and_parts (leb (length ws) 129) (leb (total (within 16 16) ws) 8) p.1).1 in
    (omega (arith, first_price w q.0, closes_dues ws q.1), omega (arith, calls_total ws, first_leaves w q.0))
  where
    first_leaves : (w : Instruction) → eqb (number w) 1 ≡ true → leaves w ≡ 0
    first_leaves (Allocate n) h = refl
    first_leaves (Get o a) h = refl
    first_leaves (GetStructure y f) h = refl
    first_leaves (Unify o) h = refl
    first_leaves (Put o a) h = refl
    first_leaves (PutStructure y f) h = refl
    first_leaves (Set o) h = refl
    first_leaves (Call p) h = never h
    first_leaves Proceed h = refl

-- all of it, from the check
module _ (table : List ℕ) (p : ℕ) (words : List ℕ) (c : Runnable table p words) where
  pub runnable_ready : (n r : ℕ) → get_or table p 0 ≡ n → 8 < r → Ready table n (opened words) r [] (map decode words)
  runnable_ready n r size wide =
      let v4_all = (and_parts (eqb (run (within 6 8) (map decode words)) 0 && eqb (run (within 13 15) (map decode words)) 0) _ c.kept.v4_kept).1 in
      let v6_all = and_parts (filled got (get_or c.arities p 0) (map decode words)) (calls_kept c.arities [] (map decode words)) c.kept.v6_kept in
      let e : get_or c.arities p 0 ≡ n = sym (c.extends p c.known).1 ∙ size in
      let gots = (and_parts (below (get_or c.arities p 0) _) (every (λ w. leb (got w) (get_or c.arities p 0)) (map decode words)) v6_all.0).1 in
      ready_from c.arities table c.extends n (opened words) r wide (map decode words) [] (all_ranged c.arities words c.kept.v1_kept) v4_all
      (subst (λ z. every (λ w. leb (got w) z) (map decode words) ≡ true) e gots) v6_all.1 (λ a i. absurd i)

  pub runnable_costs : (dues (map decode words) + 2 ≤ length words) × (calls (map decode words) ≤ 8)
  runnable_costs =
      let q = v2_costs (map decode words) c.kept.v2_kept in
      (omega (arith, q.0, length-map words decode), q.1)
