-- Code that keeps the rules is ready to run.
use Rattle.std.proofs.Common.{◌≡◌, ℕ, zero, suc, ◌+◌, ◌-◌, ◌<◌, ◌≤◌, Bool, true, false, cond, ◌&&◌, ◌||◌, eqb, ltb, leb, ◌⊎◌, List, [], ◌∷◌, map, get_or, Some, None, Option, sym, refl, ap, ◌∙◌, subst, inl, inr, ⊎_elim, arith}
use Rattle.std.proofs.lemmas.Bool.{and_parts, or_cases, eqb-true, eq-eqb, leb-true, ltb-true, cond-true, cond-false}
use Rattle.code.specs.declared.table.Kind.TheVariants.{Nothing, Slot, Argument, Constant, Structure}
use Rattle.code.specs.declared.instructions.Operand.TheVariants.{Fresh, Known, Constant as Fixed}
use Rattle.code.specs.declared.instructions.Instruction.{Instruction}
use Rattle.code.specs.declared.instructions.Instruction.TheVariants.{Allocate, Get, GetStructure, Unify, Put, PutStructure, Set, Call, Proceed}
use Rattle.code.specs.Tests.{every, total, run, along, each_at, below, chosen, is}
use Rattle.code.specs.Instructions.{within, sets, reads, got, put, called}
use Rattle.code.specs.Words.{decode}
use Rattle.code.specs.Rules.{in_range, ranged, opened, unifies, builds, set_before, filled, calls, broken}
use Rattle.code.specs.Rules.{ready as ready_at}
use Rattle.code.specs.Passes.{inside}
use Rattle.code.specs.WellFormed.{Kept, Runnable, symbols_by}
use Rattle.code.specs.Ready.{In, Piece, Pieces, Shuns, piece_of, Avoids, Ready}
use Rattle.code.proofs.WordLaws.{never}
use Rattle.code.proofs.RangeLaws.{all_ranged, sets_inside}
use Rattle.code.proofs.ArgumentLaws.{below_at, every_at}
use Rattle.code.proofs.UseLaws.{is_some, kept, well_formed}
use Rattle.code.proofs.MeaningLaws.{defined}

none_some : {A : Type 0} {y : ℕ} → None ≡ Some y → A
none_some e = let z : ◌≡◌ {A = ℕ} 0 1 = cc in absurd (omega arith)

is_same : (o : Option ℕ) (y : ℕ) → o ≡ Some y → is o y ≡ true
is_same o y e = ap (λ x. is x y) e ∙ eq-eqb y y refl

-- how often a slot is set, and an argument put
abbrev times : ℕ → List Instruction → ℕ
times y ws = total (λ w. is (sets w) y) ws

abbrev puts : ℕ → List Instruction → ℕ
puts a ws = total (λ w. eqb (put w) a) ws

times_here : (y : ℕ) (w : Instruction) (ws : List Instruction) → sets w ≡ Some y → times y (w ∷ ws) ≡ suc (times y ws)
times_here y w ws e = cond-true (is (sets w) y) _ _ (is_same (sets w) y e)

times_more : (y : ℕ) (w : Instruction) (ws : List Instruction) → times y ws ≤ times y (w ∷ ws)
times_more y w ws = go (is (sets w) y)
  where
    go : (t : Bool) → times y ws ≤ cond t (suc (times y ws)) (times y ws)
    go true = omega arith
    go false = omega arith

-- the slots filled and the arguments put after an instruction
abbrev add_slot : Option ℕ → List ℕ → List ℕ
add_slot None D = D
add_slot (Some y) D = y ∷ D

abbrev add_put : Instruction → List ℕ → List ℕ
add_put (Allocate k) A = A
add_put (Get o b) A = A
add_put (GetStructure y f) A = A
add_put (Unify o) A = A
add_put (Put o b) A = b ∷ A
add_put (PutStructure y f) A = A
add_put (Set o) A = A
add_put (Call p) A = A
add_put Proceed A = A

in_more : (o : Option ℕ) (y : ℕ) (D : List ℕ) → In y D → In y (add_slot o D)
in_more None y D h = h
in_more (Some z) y D h = inr h

in_here : (o : Option ℕ) (y : ℕ) (D : List ℕ) → o ≡ Some y → In y (add_slot o D)
in_here None y D e = none_some e
in_here (Some z) y D e = let q : y ≡ z = cc in inl q

put_here : (w : Instruction) (A : List ℕ) (a : ℕ) → put w ≡ a → 0 < a → In a (add_put w A)
put_here (Allocate k) A a e l = absurd (omega arith)
put_here (Get o b) A a e l = absurd (omega arith)
put_here (GetStructure y f) A a e l = absurd (omega arith)
put_here (Unify o) A a e l = absurd (omega arith)
put_here (Put o b) A a e l = inl (sym e)
put_here (PutStructure y f) A a e l = absurd (omega arith)
put_here (Set o) A a e l = absurd (omega arith)
put_here (Call p) A a e l = absurd (omega arith)
put_here Proceed A a e l = absurd (omega arith)

put_more : (w : Instruction) (A : List ℕ) (a : ℕ) → In a A → In a (add_put w A)
put_more (Allocate k) A a h = h
put_more (Get o b) A a h = h
put_more (GetStructure y f) A a h = h
put_more (Unify o) A a h = h
put_more (Put o b) A a h = inr h
put_more (PutStructure y f) A a h = h
put_more (Set o) A a h = h
put_more (Call p) A a h = h
put_more Proceed A a h = h

-- the slot that instruction j reads
abbrev reads_at : List Instruction → ℕ → Option ℕ
reads_at [] j = None
reads_at (w ∷ ws) zero = reads w
reads_at (w ∷ ws) (suc j) = reads_at ws j

each_reads : (q : ℕ → Option ℕ → Bool) (ws : List Instruction) (j y : ℕ) → each_at (λ k w. q k (reads w)) ws ≡ true → reads_at ws j ≡ Some y → q j (Some y) ≡ true
each_reads q [] j y h e = none_some e
each_reads q (w ∷ ws) zero y h e = ap (q 0) (sym e) ∙ (and_parts (q 0 (reads w)) (each_at (λ k w. q (suc k) (reads w)) ws) h).0
each_reads q (w ∷ ws) (suc j) y h e = each_reads (λ k. q (suc k)) ws j y (and_parts (q 0 (reads w)) (each_at (λ k w. q (suc k) (reads w)) ws) h).1 e

-- the arguments of a structure
unify_piece : (w : Instruction) → within 6 8 w ≡ true → Piece w
unify_piece (Allocate k) h = never h
unify_piece (Get (Fresh y) a) h = never h
unify_piece (Get (Known y) a) h = never h
unify_piece (Get (Fixed c) a) h = never h
unify_piece (GetStructure y f) h = never h
unify_piece (Unify (Fresh y)) h = tt
unify_piece (Unify (Known y)) h = tt
unify_piece (Unify (Fixed c)) h = tt
unify_piece (Put (Fresh y) a) h = never h
unify_piece (Put (Known y) a) h = never h
unify_piece (Put (Fixed c) a) h = never h
unify_piece (PutStructure y f) h = never h
unify_piece (Set (Fresh y)) h = never h
unify_piece (Set (Known y)) h = never h
unify_piece (Set (Fixed c)) h = never h
unify_piece (Call p) h = never h
unify_piece Proceed h = never h

set_piece : (w : Instruction) → within 13 15 w ≡ true → Piece w
set_piece (Allocate k) h = never h
set_piece (Get (Fresh y) a) h = never h
set_piece (Get (Known y) a) h = never h
set_piece (Get (Fixed c) a) h = never h
set_piece (GetStructure y f) h = never h
set_piece (Unify (Fresh y)) h = never h
set_piece (Unify (Known y)) h = never h
set_piece (Unify (Fixed c)) h = never h
set_piece (Put (Fresh y) a) h = never h
set_piece (Put (Known y) a) h = never h
set_piece (Put (Fixed c) a) h = never h
set_piece (PutStructure y f) h = never h
set_piece (Set (Fresh y)) h = tt
set_piece (Set (Known y)) h = tt
set_piece (Set (Fixed c)) h = tt
set_piece (Call p) h = never h
set_piece Proceed h = never h

run_pieces : (p : Instruction → Bool) → ((w : Instruction) → p w ≡ true → Piece w) → (k : ℕ) (ws : List Instruction) → k ≤ run p ws → Pieces k ws
run_pieces p f zero ws h = tt
run_pieces p f (suc k) [] h = absurd (omega arith)
run_pieces p f (suc k) (w ∷ ws) h = go (run_pieces p f k ws) (p w) refl h
  where
    go : (k ≤ run p ws → Pieces k ws) → (t : Bool) → p w ≡ t → suc k ≤ cond t (suc (run p ws)) 0 → Pieces (suc k) (w ∷ ws)
    go ih true e h = (f w e, ih (omega arith))
    go ih false e h = absurd (omega arith)

shuns : (x : ℕ) (w : Instruction) → (reads w ≡ Some x → ⊥) → Shuns x (piece_of w)
shuns x (Allocate k) h = tt
shuns x (Get (Fresh y) a) h = tt
shuns x (Get (Known y) a) h = tt
shuns x (Get (Fixed c) a) h = tt
shuns x (GetStructure y f) h = tt
shuns x (Unify (Fresh y)) h = tt
shuns x (Unify (Known y)) h = λ e. h (ap Some e)
shuns x (Unify (Fixed c)) h = tt
shuns x (Put (Fresh y) a) h = tt
shuns x (Put (Known y) a) h = tt
shuns x (Put (Fixed c) a) h = tt
shuns x (PutStructure y f) h = tt
shuns x (Set (Fresh y)) h = tt
shuns x (Set (Known y)) h = λ e. h (ap Some e)
shuns x (Set (Fixed c)) h = tt
shuns x (Call p) h = tt
shuns x Proceed h = tt

avoids : (x k : ℕ) (ws : List Instruction) → ((j : ℕ) → j < k → reads_at ws j ≡ Some x → ⊥) → Avoids x k ws
avoids x zero ws h = tt
avoids x (suc k) [] h = tt
avoids x (suc k) (w ∷ ws) h = (shuns x w (h 0 (omega arith)), avoids x k ws (λ j l. h (suc j) (omega arith)))

module _ (ar : List ℕ) (low : every (λ a. leb a 8) ar ≡ true) (n m : ℕ) where
  abbrev followed : Instruction → List Instruction → Bool
  followed w ws = (within 6 8 w || eqb (run (within 6 8) ws) (unifies ar w)) && (within 13 15 w || eqb (run (within 13 15) ws) (builds ar w))

  set_times : (ws : List Instruction) (y j : ℕ) → set_before ar ws y j ≡ true → 0 < times y ws
  set_times [] y j h = never h
  set_times (w ∷ ws) y zero h = never h
  set_times (w ∷ ws) y (suc j) h =
      ⊎_elim
      (λ a. let e = times_here y w ws (is_some (sets w) y (and_parts (is (sets w) y) (leb (builds ar w) j) a).0) in let z : 0 < times y (w ∷ ws) = omega arith in z)
      (λ b. let i = set_times ws y j b in let l = times_more y w ws in let z : 0 < times y (w ∷ ws) = omega arith in z)
      (or_cases (is (sets w) y && leb (builds ar w) j) (set_before ar ws y j) h)

  -- what is known of the code left, where the slots of D are filled
  record Sound (ws : List Instruction) (D : List ℕ) : Type 0 where
    ranges : every (ranged m ar) ws ≡ true
    gets : every (λ w. leb (got w) n) ws ≡ true
    structures : along followed ws ≡ true
    supplied : (j y : ℕ) → reads_at ws j ≡ Some y → In y D ⊎ (set_before ar ws y j ≡ true)
    once : (y : ℕ) → y < m → times y ws ≤ 1
    spent : (y : ℕ) → In y D → times y ws ≡ 0

  -- and where the instructions `since` the last call have put the arguments A
  record Called (ws : List Instruction) (A : List ℕ) (since : List Instruction) : Type 0 where
    calls_kept_lem : calls ar since ws ≡ true
    all_put : (a : ℕ) → 0 < a → 0 < puts a since → In a A

  inside_below : (o : Option ℕ) (y : ℕ) → inside m o ≡ true → o ≡ Some y → y < m
  inside_below None y h e = none_some e
  inside_below (Some z) y h e = let q : z ≡ y = cc in let l = ltb-true z m h in omega arith

  module _ (w : Instruction) (ws : List Instruction) (D : List ℕ) (s : Sound (w ∷ ws) D) where
    head_ranged : ranged m ar w ≡ true
    head_ranged = (and_parts (ranged m ar w) (every (ranged m ar) ws) s.ranges).0

    head_got : got w ≤ n
    head_got = leb-true (got w) n (and_parts (leb (got w) n) (every (λ w. leb (got w) n) ws) s.gets).0

    head_followed : followed w ws ≡ true
    head_followed = (and_parts (followed w ws) (along followed ws) s.structures).0

    head_read : (y : ℕ) → reads w ≡ Some y → In y D
    head_read y e = ⊎_elim (λ i. i) (λ h. never h) (s.supplied 0 y e)

    head_new : (y : ℕ) → sets w ≡ Some y → In y D → ⊥
    head_new y e i = let a = s.spent y i in let b = times_here y w ws e in omega arith

    head_below : (y : ℕ) → sets w ≡ Some y → y < m
    head_below y e = inside_below (sets w) y (sets_inside m ar w head_ranged) e

    spent_next : (o : Option ℕ) → sets w ≡ o → (y : ℕ) → In y (add_slot o D) → times y ws ≡ 0
    spent_next None e y i = let a = s.spent y i in let b = times_more y w ws in omega arith
    spent_next (Some z) e y (inl q) =
        let a = s.once z (head_below z e) in
        let b = times_here z w ws e in
        let c : times z ws ≡ 0 = omega arith in
        ap (λ k. times k ws) q ∙ c
    spent_next (Some z) e y (inr i) = let a = s.spent y i in let b = times_more y w ws in omega arith

    supplied_next : (j y : ℕ) → reads_at ws j ≡ Some y → In y (add_slot (sets w) D) ⊎ (set_before ar ws y j ≡ true)
    supplied_next j y e =
        ⊎_elim (λ i. inl (in_more (sets w) y D i))
        (λ h. ⊎_elim
        (λ a. inl (in_here (sets w) y D (is_some (sets w) y (and_parts (is (sets w) y) (leb (builds ar w) j) a).0)))
        (λ b. inr b)
        (or_cases (is (sets w) y && leb (builds ar w) j) (set_before ar ws y j) h))
        (s.supplied (suc j) y e)

    sound_next : Sound ws (add_slot (sets w) D)
    sound_next =
        record {
          ranges = (and_parts (ranged m ar w) (every (ranged m ar) ws) s.ranges).1;
          gets = (and_parts (leb (got w) n) (every (λ w. leb (got w) n) ws) s.gets).1;
          structures = (and_parts (followed w ws) (along followed ws) s.structures).1;
          supplied = supplied_next;
          once = λ y l. let a = s.once y l in let b = times_more y w ws in omega arith;
          spent = spent_next (sets w) refl;
        }

  called_next : (w : Instruction) (ws : List Instruction) (A : List ℕ) (since : List Instruction) → Called (w ∷ ws) A since → called w ≡ None → Called ws (add_put w A) (w ∷ since)
  called_next w ws A since c e =
      record {
        calls_kept_lem = ap (λ o. chosen o (λ p. filled put (get_or ar p 0) since && calls ar [] ws) (calls ar (w ∷ since) ws)) (sym e) ∙ c.calls_kept_lem;
        all_put = λ a l. more a l (eqb (put w) a) refl;
      }
    where
      more : (a : ℕ) → 0 < a → (t : Bool) → eqb (put w) a ≡ t → 0 < cond (eqb (put w) a) (suc (puts a since)) (puts a since) → In a (add_put w A)
      more a l true q h = put_here w A a (eqb-true (put w) a q) l
      more a l false q h = put_more w A a (c.all_put a l (subst (λ k. 0 < k) (cond-false (eqb (put w) a) (suc (puts a since)) (puts a since) q) h))

  module _ (p : ℕ) (ws : List Instruction) (A : List ℕ) (since : List Instruction) (c : Called (Call p ∷ ws) A since) where
    call_parts : (filled put (get_or ar p 0) since ≡ true) × (calls ar [] ws ≡ true)
    call_parts = and_parts (filled put (get_or ar p 0) since) (calls ar [] ws) c.calls_kept_lem

    call_put : (a : ℕ) → 0 < a → a ≤ get_or ar p 0 → In a A
    call_put a l h =
        let f = and_parts (below (get_or ar p 0) (λ b. eqb (puts (b + 1) since) 1)) (every (λ w. leb (put w) (get_or ar p 0)) since) call_parts.0 in
        let e = eqb-true (puts (a - 1 + 1) since) 1 (below_at (get_or ar p 0) (λ b. eqb (puts (b + 1) since) 1) f.0 (a - 1) (omega arith)) in
        let back : a - 1 + 1 ≡ a = omega arith in
        let one : puts a since ≡ 1 = ap (λ k. puts k since) (sym back) ∙ e in
        c.all_put a l (omega arith)

    called_call : Called ws [] []
    called_call = record { calls_kept_lem = call_parts.1; all_put = λ a l h. absurd (omega arith) }

  call_low : (p : ℕ) → get_or ar p 0 < 9
  call_low p = let h = every_at ar low p in omega arith

  -- operands in range
  slot_below : (y : ℕ) (t : Bool) → (in_range m ar Slot y && t) ≡ true → y < m
  slot_below y t h = ltb-true y m (and_parts (ltb y m) t h).0

  argument_within : (a : ℕ) → in_range m ar Argument a ≡ true → (0 < a) × (a < 9)
  argument_within a h =
      let q = and_parts (leb 1 a) (leb a 8) h in
      let l = leb-true 1 a q.0 in
      let g = leb-true a 8 q.1 in
      (omega arith, omega arith)

  second_argument : (a : ℕ) (t : Bool) → (t && in_range m ar Argument a) ≡ true → (0 < a) × (a < 9)
  second_argument a t h = argument_within a (and_parts t (in_range m ar Argument a) h).1

  first_argument_lem : (a : ℕ) (t : Bool) → (in_range m ar Argument a && t) ≡ true → (0 < a) × (a < 9)
  first_argument_lem a t h = argument_within a (and_parts (in_range m ar Argument a) t h).0

  module _ (y f : ℕ) (ws : List Instruction) (D : List ℕ) where
    get_pieces : Sound (GetStructure y f ∷ ws) D → Pieces (get_or ar f 0) ws
    get_pieces s =
        let e = eqb-true (run (within 6 8) ws) (get_or ar f 0) (and_parts (eqb (run (within 6 8) ws) (get_or ar f 0)) (eqb (run (within 13 15) ws) 0) (head_followed (GetStructure y f) ws D s)).0 in
        run_pieces (within 6 8) unify_piece (get_or ar f 0) ws (omega arith)

    put_pieces : Sound (PutStructure y f ∷ ws) D → Pieces (get_or ar f 0) ws
    put_pieces s =
        let e = eqb-true (run (within 13 15) ws) (get_or ar f 0) (and_parts (eqb (run (within 6 8) ws) 0) (eqb (run (within 13 15) ws) (get_or ar f 0)) (head_followed (PutStructure y f) ws D s)).1 in
        run_pieces (within 13 15) set_piece (get_or ar f 0) ws (omega arith)

    put_avoids : Sound (PutStructure y f ∷ ws) D → Avoids y (get_or ar f 0) ws
    put_avoids s = avoids y (get_or ar f 0) ws (λ j l e. ⊎_elim (head_new (PutStructure y f) ws D s y refl) (late j l) (s.supplied (suc j) y e))
      where
        late : (j : ℕ) → j < get_or ar f 0 → ((eqb y y && leb (get_or ar f 0) j) || set_before ar ws y j) ≡ true → ⊥
        late j l h =
            ⊎_elim
            (λ a. let g = leb-true (get_or ar f 0) j (and_parts (eqb y y) (leb (get_or ar f 0) j) a).1 in let z : ⊥ = omega arith in z)
            (λ b.
            let g = set_times ws y j b in
            let o = s.once y (head_below (PutStructure y f) ws D s y refl) in
            let t = times_here y (PutStructure y f) ws refl in
            let z : ⊥ = omega arith in z)
            (or_cases (eqb y y && leb (get_or ar f 0) j) (set_before ar ws y j) h)

  ready : (ws : List Instruction) (D A : List ℕ) (since : List Instruction) → Sound ws D → Called ws A since → Ready (λ f. get_or ar f 0) n m 9 D A ws
  ready [] D A since s g = tt
  ready (Allocate k ∷ ws) D A since s g = ready ws (add_slot (sets (Allocate k)) D) (add_put (Allocate k) A) ((Allocate k) ∷ since) (sound_next (Allocate k) ws D s) (called_next (Allocate k) ws A since g refl)
  ready (Get (Fresh y) a ∷ ws) D A since s g = ((second_argument a (in_range m ar Slot y) (head_ranged (Get (Fresh y) a) ws D s)).0, head_got (Get (Fresh y) a) ws D s, (slot_below y (in_range m ar Argument a) (head_ranged (Get (Fresh y) a) ws D s), head_new (Get (Fresh y) a) ws D s y refl), ready ws (add_slot (sets (Get (Fresh y) a)) D) (add_put (Get (Fresh y) a) A) ((Get (Fresh y) a) ∷ since) (sound_next (Get (Fresh y) a) ws D s) (called_next (Get (Fresh y) a) ws A since g refl))
  ready (Get (Known y) a ∷ ws) D A since s g = ((second_argument a (in_range m ar Slot y) (head_ranged (Get (Known y) a) ws D s)).0, head_got (Get (Known y) a) ws D s, (slot_below y (in_range m ar Argument a) (head_ranged (Get (Known y) a) ws D s), head_read (Get (Known y) a) ws D s y refl), ready ws (add_slot (sets (Get (Known y) a)) D) (add_put (Get (Known y) a) A) ((Get (Known y) a) ∷ since) (sound_next (Get (Known y) a) ws D s) (called_next (Get (Known y) a) ws A since g refl))
  ready (Get (Fixed c) a ∷ ws) D A since s g = ((first_argument_lem a (in_range m ar Constant c) (head_ranged (Get (Fixed c) a) ws D s)).0, head_got (Get (Fixed c) a) ws D s, tt, ready ws (add_slot (sets (Get (Fixed c) a)) D) (add_put (Get (Fixed c) a) A) ((Get (Fixed c) a) ∷ since) (sound_next (Get (Fixed c) a) ws D s) (called_next (Get (Fixed c) a) ws A since g refl))
  ready (GetStructure y f ∷ ws) D A since s g = (slot_below y (in_range m ar Structure f) (head_ranged (GetStructure y f) ws D s), head_read (GetStructure y f) ws D s y refl, get_pieces y f ws D s, ready ws (add_slot (sets (GetStructure y f)) D) (add_put (GetStructure y f) A) ((GetStructure y f) ∷ since) (sound_next (GetStructure y f) ws D s) (called_next (GetStructure y f) ws A since g refl))
  ready (Unify (Fresh y) ∷ ws) D A since s g = ((slot_below y (in_range m ar Nothing 0) (head_ranged (Unify (Fresh y)) ws D s), head_new (Unify (Fresh y)) ws D s y refl), ready ws (add_slot (sets (Unify (Fresh y))) D) (add_put (Unify (Fresh y)) A) ((Unify (Fresh y)) ∷ since) (sound_next (Unify (Fresh y)) ws D s) (called_next (Unify (Fresh y)) ws A since g refl))
  ready (Unify (Known y) ∷ ws) D A since s g = ((slot_below y (in_range m ar Nothing 0) (head_ranged (Unify (Known y)) ws D s), head_read (Unify (Known y)) ws D s y refl), ready ws (add_slot (sets (Unify (Known y))) D) (add_put (Unify (Known y)) A) ((Unify (Known y)) ∷ since) (sound_next (Unify (Known y)) ws D s) (called_next (Unify (Known y)) ws A since g refl))
  ready (Unify (Fixed c) ∷ ws) D A since s g = (tt, ready ws (add_slot (sets (Unify (Fixed c))) D) (add_put (Unify (Fixed c)) A) ((Unify (Fixed c)) ∷ since) (sound_next (Unify (Fixed c)) ws D s) (called_next (Unify (Fixed c)) ws A since g refl))
  ready (Put (Fresh y) a ∷ ws) D A since s g = ((second_argument a (in_range m ar Slot y) (head_ranged (Put (Fresh y) a) ws D s)).1, (slot_below y (in_range m ar Argument a) (head_ranged (Put (Fresh y) a) ws D s), head_new (Put (Fresh y) a) ws D s y refl), ready ws (add_slot (sets (Put (Fresh y) a)) D) (add_put (Put (Fresh y) a) A) ((Put (Fresh y) a) ∷ since) (sound_next (Put (Fresh y) a) ws D s) (called_next (Put (Fresh y) a) ws A since g refl))
  ready (Put (Known y) a ∷ ws) D A since s g = ((second_argument a (in_range m ar Slot y) (head_ranged (Put (Known y) a) ws D s)).1, (slot_below y (in_range m ar Argument a) (head_ranged (Put (Known y) a) ws D s), head_read (Put (Known y) a) ws D s y refl), ready ws (add_slot (sets (Put (Known y) a)) D) (add_put (Put (Known y) a) A) ((Put (Known y) a) ∷ since) (sound_next (Put (Known y) a) ws D s) (called_next (Put (Known y) a) ws A since g refl))
  ready (Put (Fixed c) a ∷ ws) D A since s g = ((first_argument_lem a (in_range m ar Constant c) (head_ranged (Put (Fixed c) a) ws D s)).1, tt, ready ws (add_slot (sets (Put (Fixed c) a)) D) (add_put (Put (Fixed c) a) A) ((Put (Fixed c) a) ∷ since) (sound_next (Put (Fixed c) a) ws D s) (called_next (Put (Fixed c) a) ws A since g refl))
  ready (PutStructure y f ∷ ws) D A since s g = (slot_below y (in_range m ar Structure f) (head_ranged (PutStructure y f) ws D s), head_new (PutStructure y f) ws D s y refl, put_pieces y f ws D s, put_avoids y f ws D s, ready ws (add_slot (sets (PutStructure y f)) D) (add_put (PutStructure y f) A) ((PutStructure y f) ∷ since) (sound_next (PutStructure y f) ws D s) (called_next (PutStructure y f) ws A since g refl))
  ready (Set (Fresh y) ∷ ws) D A since s g = ((slot_below y (in_range m ar Nothing 0) (head_ranged (Set (Fresh y)) ws D s), head_new (Set (Fresh y)) ws D s y refl), ready ws (add_slot (sets (Set (Fresh y))) D) (add_put (Set (Fresh y)) A) ((Set (Fresh y)) ∷ since) (sound_next (Set (Fresh y)) ws D s) (called_next (Set (Fresh y)) ws A since g refl))
  ready (Set (Known y) ∷ ws) D A since s g = ((slot_below y (in_range m ar Nothing 0) (head_ranged (Set (Known y)) ws D s), head_read (Set (Known y)) ws D s y refl), ready ws (add_slot (sets (Set (Known y))) D) (add_put (Set (Known y)) A) ((Set (Known y)) ∷ since) (sound_next (Set (Known y)) ws D s) (called_next (Set (Known y)) ws A since g refl))
  ready (Set (Fixed c) ∷ ws) D A since s g = (tt, ready ws (add_slot (sets (Set (Fixed c))) D) (add_put (Set (Fixed c)) A) ((Set (Fixed c)) ∷ since) (sound_next (Set (Fixed c)) ws D s) (called_next (Set (Fixed c)) ws A since g refl))
  ready (Call p ∷ ws) D A since s g = (call_low p, call_put p ws A since g, ready ws D [] [] (sound_next (Call p) ws D s) (called_call p ws A since g))
  ready (Proceed ∷ ws) D A since s g = ready ws (add_slot (sets Proceed) D) (add_put Proceed A) (Proceed ∷ since) (sound_next Proceed ws D s) (called_next Proceed ws A since g refl)

ready_code : (ar : List ℕ) (predicate key : ℕ) (ws : List ℕ) → every (λ a. leb a 8) ar ≡ true → Kept ar predicate key ws
    → Ready (λ f. get_or ar f 0) (get_or ar predicate 0) (opened ws) 9 [] [] (map decode ws)
ready_code ar predicate key ws low k =
    let code = map decode ws in
    let m = opened ws in
    let n = get_or ar predicate 0 in
    let v4 = and_parts (eqb (run (within 6 8) code) 0 && eqb (run (within 13 15) code) 0) (along (followed ar low n m) code) k.v4_kept in
    let v5 = and_parts (below m (λ y. eqb (times y code) 1)) (each_at (λ j w. ready_at ar code j (reads w)) code) k.v5_kept in
    let v6 = and_parts (filled got n code) (calls ar [] code) k.v6_kept in
    let gets = and_parts (below n (λ a. eqb (total (λ w. eqb (got w) (a + 1)) code) 1)) (every (λ w. leb (got w) n) code) v6.0 in
    ready ar low n m code [] [] []
    (record {
      ranges = all_ranged ar ws k.v1_kept;
      gets = gets.1;
      structures = v4.1;
      supplied = λ j y e. inr (each_reads (ready_at ar code) code j y v5.1 e);
      once = λ y l. let e = eqb-true (times y code) 1 (below_at m (λ y. eqb (times y code) 1) v5.0 y l) in omega arith;
      spent = λ y h. absurd h;
    })
    (record { calls_kept_lem = v6.1; all_put = λ a l h. absurd (omega arith) })

pub runnable : (ar : List ℕ) (predicate key : ℕ) (ws : List ℕ) → every (λ a. leb a 8) ar ≡ true → broken ar predicate key ws ≡ None → Runnable ar predicate key ws
runnable ar predicate key ws low h =
    let k = kept ar predicate key ws h in
    let r = ready_code ar predicate key ws low k in
    record {
      kept = k;
      formed = well_formed ar predicate key ws k;
      ready = r;
      defined = λ names. defined (symbols_by names ar) (get_or ar predicate 0) (opened ws) 9 (map decode ws) r;
    }
