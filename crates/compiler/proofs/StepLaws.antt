-- The code of a clause, step by step.
use Rattle.std.proofs.Common.{◌≡◌, ℕ, zero, suc, ◌+◌, ◌-◌, ◌<◌, ◌≤◌, Bool, true, false, ◌⊎◌, List, [], ◌∷◌, ◌++◌, map, length, get_or, take, drop, replicate, sym, refl, ap, ◌∙◌, subst, ap₂, subst₂, inl, inr, ⊎_elim, append_assoc, append-nil, add-one, arith, length-append}
use mathlib.Core.List.{map-append, append_cancel_left}
use borrow.Author.Count.{below_more}
use native.Mathlib.Decide.{ℕ_discrete, dec_lt}
use Rattle.std.proofs.lemmas.List.{take_more, drop_more, take_all, drop_all, get_or-replicate}
use Rattle.horn.specs.Terms.{var, node, nil, cons, count, join}
use Rattle.symbol_table.specs.Symbols.{Signature, name_at, arity_at, symbols_of}
use Rattle.compiler.specs.Terms.{hop}
use Rattle.code.specs.Meaning.{Terming, span}
use Rattle.compiler.specs.Reading.{arities, reads, Carries, hefts, weight}
use Rattle.compiler.specs.Places.{Plan, Run, Ends, width, wide, values, BuiltAt, before, single, gain}
use Rattle.compiler.specs.Lines.{calls, plan, structures, variables, Numbered, Slotted, Known, Used}
use Rattle.compiler.specs.Filling.{Empty, Filled, Marked, MarkedAt, Off, OffAt, Ahead}
use Rattle.compiler.specs.Order.{Orderly}
use Rattle.compiler.specs.Scripts.{Phase, start, top, inside, between, goal, over, Script, allocates, gets, turns, begins, calls as goes_on, ends as stops}
use Rattle.compiler.proofs.FillLaws.{fills_more, marked_more}
use Rattle.compiler.proofs.FlowLaws.{row_flows}
use Rattle.compiler.proofs.TableLaws.{run_hop, numbered_at, structure_run}
use Rattle.compiler.proofs.ReadLaws.{stack, stack_at, run_there, skips, count_back, join_nil, carries}
use Rattle.compiler.specs.Rows.{row}
use Rattle.compiler.specs.Emits.{Added, Rowed, Named, Struck}
use Rattle.compiler.specs.Steps.{Headed, HeadUpTo, GoalDown, Goal, past, BodyUpTo, Told, Opened, Written}
use Rattle.compiler.proofs.PlaceLaws.{run_up, run_within}
use Rattle.compiler.proofs.EmitLaws.{added_none, added_then, added_as, emits_gets, emits_goal, emits_allocate, emits_proceed, added_goals, added_on, added_from, named_long, row_long, row_lawful, exact_append, lawful_append}
use Rattle.compiler.specs.declared.items.Item.{Item}
use Rattle.compiler.specs.declared.items.Item.TheVariants.{Atom, Structure, Variable}
use Rattle.code.specs.declared.instructions.Instruction.{Instruction}
use Rattle.compiler.specs.declared.flat.Flat.{Flat}
use Rattle.compiler.specs.Tables.{items_of, ends_of, slots_of, Ready}
use Rattle.symbol_table.specs.Tables.{signature}
use Rattle.compiler.specs.Lawful.{Lawfuls}
use Rattle.code.specs.Tests.{total}
use Rattle.code.specs.Instructions.{within}
use Rattle.code.specs.Meaning.{goals}
use Rattle.compiler.proofs.CallLaws.{goals_count}
use Rattle.code.specs.Words.{encode, decode}
use Rattle.code.specs.declared.instructions.Instruction.TheVariants.{Allocate, Call, Proceed}
use Rattle.compiler.specs.Rows.{Role}
use Rattle.compiler.specs.Rows.{Gets, Puts}

gain_is : (sig : Signature) (k : Item) → gain sig k ≡ single k + width sig k
gain_is sig (Atom c) = refl
gain_is sig (Structure f) = omega arith
gain_is sig (Variable v) = refl

run_join : (e : ℕ → ℕ) (end n m i j k : ℕ) → Run e end n i j → Run e end m j k → Run e end (n + m) i k
run_join e end zero m i j k r q = subst₂ (λ x y. Run e end x y k) (omega arith) (sym r) q
run_join e end (suc n) m i j k r q = let z : suc (n + m) ≡ suc n + m = omega arith in subst (λ x. Run e end x i k) z (r.0, run_join e end n m (e i) j k r.1 q)

-- a run that ends where it begins has no terms
pub run_none : {p : Plan} → Ends p 0 → (n i : ℕ) → Run p.after p.size n i i → n ≡ 0
run_none ends zero i r = refl
run_none {p} ends (suc n) i r = absurd (omega (arith, ends.forth i (omega arith) r.0, run_up ends n (p.after i) i (omega arith) r.1))

-- places of a run
run_below : {p : Plan} → Ends p 0 → (n j m k : ℕ) → Run p.after p.size n j m → k < n → hop p.after k j < m
run_below ends zero j m k r h = absurd (omega arith)
run_below {p} ends (suc n) j m zero r h = omega (arith, ends.forth j (omega arith) r.0, run_up ends n (p.after j) m (omega arith) r.1)
run_below {p} ends (suc n) j m (suc k) r h = run_below ends n (p.after j) m k r.1 (omega arith)

run_above : {p : Plan} → Ends p 0 → (n j m k : ℕ) → Run p.after p.size n j m → k < n → j ≤ hop p.after k j
run_above ends zero j m k r h = absurd (omega arith)
run_above ends (suc n) j m zero r h = omega arith
run_above {p} ends (suc n) j m (suc k) r h = omega (arith, ends.forth j (omega arith) r.0, run_above ends n (p.after j) m k r.1 (omega arith))

hop_join : (e : ℕ → ℕ) (n m j : ℕ) → hop e (n + m) j ≡ hop e m (hop e n j)
hop_join e zero m j = let z : 0 + m ≡ m = omega arith in ap (λ k. hop e k j) z
hop_join e (suc n) m j = let z : suc n + m ≡ suc (n + m) = omega arith in ap (λ k. hop e k j) z ∙ hop_join e n m (e j)

-- slots of structures are apart from all others
abbrev pub Apart : Plan → Type 0
Apart p = (i j f : ℕ) → i < p.size → j < p.size → p.tok i ≡ Structure f → (i ≡ j → ⊥) → OffAt p (p.slot i) j

module _ {p : Plan} (ends : Ends p 0) (apart : Apart p) where
  -- a row leaves the slots of structures elsewhere
  pub row_keeps : {r : Role} {out out' : List ℕ} {s s' : List Bool} {n j : ℕ} (m : ℕ) → Rowed p r out out' s s' n j → Run p.after p.size n j m → m ≤ p.size
      → (i f : ℕ) → i < p.size → p.tok i ≡ Structure f → ((k : ℕ) → j ≤ k → k < m → i ≡ k → ⊥) → Empty s (p.slot i) → Empty s' (p.slot i)
  row_keeps {n = n} {j = j} m rowed run le i f lt is far e =
      rowed.keeps (p.slot i) (λ k h.
      let below = run_below ends n j m k run h in
      apart i (hop p.after k j) f lt (omega arith) is (far (hop p.after k j) (run_above ends n j m k run h) below)) e

  struck_keeps : {a : Phase} {out out' : List ℕ} {s s' : List Bool} (t : ℕ) → Struck p a t out out' s s' → t < p.size
      → (i f : ℕ) → i < p.size → p.tok i ≡ Structure f → ((k : ℕ) → t ≤ k → k < p.after t → i ≡ k → ⊥) → Empty s (p.slot i) → Empty s' (p.slot i)
  struck_keeps t struck here i f lt is far e =
      let run = ends.runs t (omega arith) here in
      let le = ends.within t (omega arith) here in
      let up = ends.forth t (omega arith) here in
      struck.keeps (p.slot i) (apart i t f lt here is (far t (omega arith) up)) (λ k h.
      let below = run_below ends (wide p t) (suc t) (p.after t) k run h in
      let above = run_above ends (wide p t) (suc t) (p.after t) k run h in
      apart i (hop p.after k (suc t)) f lt (omega arith) is (far (hop p.after k (suc t)) (omega arith) below)) e

marked_at : (p : Plan) (s s' : List Bool) (i : ℕ) → ((z : ℕ) → Filled s z → Filled s' z) → MarkedAt p s i → MarkedAt p s' i
marked_at p s s' i h m = marked_more (p.tok i) (p.slot i) s s' h m

abbrev pub head_start : {p : Plan} → Ends p 0 → Apart p → (n end : ℕ) (out out₁ : List ℕ) (s s' : List Bool) → Rowed p Gets out out₁ s s' n 0 → Run p.after p.size n 0 end → Ahead p s 0 p.size
    → HeadUpTo p out₁ out₁ n 0 end s' s'
head_start {p} ends apart n end out out₁ s s' rowed run ahead = record {
  size = 0;
  left = n;
  run = run;
  added = added_as 0 (λ α ρ. (k : ℕ) → k < 0 → BuiltAt p ρ k) refl (λ α ρ (x : Unit {0}) k hi. absurd (omega arith)) (λ α ρ y. tt) (added_none p.sig inside out₁ s');
  count = omega arith;
  chain = rowed.all;
  done = λ k h. absurd (omega arith);
  ahead = λ i f lo lt is. row_keeps ends apart end rowed run (run_within ends n 0 end (omega arith) run (omega arith)) i f lt is (λ k low hi q. omega arith) (ahead i f (omega arith) lt is);
}

-- the next place has its slot
pub head_marked : {p : Plan} {out out' : List ℕ} {n i end : ℕ} {s s' : List Bool} → HeadUpTo p out out' n i end s s' → i < end → MarkedAt p s' i
head_marked {p} {i = i} {end = end} {s' = s'} was lt = go was.left was.run was.chain
  where
    go : (m : ℕ) → Run p.after p.size m i end → ((k : ℕ) → k < m → MarkedAt p s' (hop p.after k i)) → MarkedAt p s' i
    go zero r h = absurd (omega arith)
    go (suc m) r h = h 0 (omega arith)

module _ {p : Plan} (ends : Ends p 0) (apart : Apart p) {out out' out'' : List ℕ} {n i end : ℕ} {s s' s'' : List Bool} (was : HeadUpTo p out out' n i end s s') (lt : i < end)
    (struck : Struck p inside i out' out'' s' s'') where
  head_go : (left : ℕ) → Run p.after p.size left i end → n + was.size ≡ i + left + before p i → ((k : ℕ) → k < left → MarkedAt p s' (hop p.after k i)) → HeadUpTo p out out'' n (i + 1) end s s''
  head_go zero r c chain = absurd (omega arith)
  head_go (suc m) r c chain =
      let run = ends.runs i (omega arith) r.0 in
      let stop : hop p.after (wide p i) (i + 1) ≡ p.after i = ap (hop p.after (wide p i)) (add-one i) ∙ sym (run_hop p.after p.size (wide p i) (suc i) (p.after i) run) in
      let more = struck.added.more in
      let up = run_up ends m (p.after i) end (omega arith) r.1 in
      record {
        size = was.size + gain p.sig (p.tok i);
        left = wide p i + m;
        run = run_join p.after p.size (wide p i) m (i + 1) (p.after i) end (subst (λ x. Run p.after p.size (wide p i) x (p.after i)) (sym (add-one i)) run) r.1;
        added = added_as _ (λ α ρ. (k : ℕ) → k < i + 1 → BuiltAt p ρ k) refl
            (λ α ρ x. below_more (λ k. BuiltAt p ρ k) i x.0 x.1)
            (λ α ρ y. (λ k h. y k (omega arith), y i (omega arith)))
            (added_then was.added struck.added);
        count = omega (arith, gain_is p.sig (p.tok i), ap (before p) (add-one i));
        chain = λ k h.
            elim (dec_lt k (wide p i)) [
              | yes low ↦ subst (λ x. MarkedAt p s'' (hop p.after k x)) (sym (add-one i)) (struck.all k low)
              | no high ↦
                  let split : k ≡ wide p i + (k - wide p i) = omega arith in
                  let there : hop p.after k (i + 1) ≡ hop p.after (k - wide p i) (p.after i) =
                  ap (λ x. hop p.after x (i + 1)) split ∙ hop_join p.after (wide p i) (k - wide p i) (i + 1) ∙ ap (hop p.after (k - wide p i)) stop in
                  subst (λ x. MarkedAt p s'' x) (sym there) (marked_at p s' s'' _ more (chain (suc (k - wide p i)) (omega arith)))
            ];
        done = below_more (λ k. MarkedAt p s'' k) i (λ k h. marked_at p s' s'' k more (was.done k h)) (marked_at p s' s'' i more (chain 0 (omega arith)));
        ahead = λ x f lo hi is. struck_keeps ends apart i struck r.0 x f hi is (λ k low below q. omega arith) (was.ahead x f lo hi is);
      }

  pub head_turn : HeadUpTo p out out'' n (i + 1) end s s''
  head_turn = head_go was.left was.run was.count was.chain

pub head_end : {p : Plan} → Ends p 0 → (q n i end : ℕ) (out out₁ out₂ : List ℕ) (s s' s'' : List Bool) → n ≡ arity_at p.sig q → i ≡ end → end ≡ hop p.after (arity_at p.sig q) 0
    → Rowed p Gets out out₁ s s' n 0 → HeadUpTo p out₁ out₂ n i end s' s'' → Opened p q end out out₂ s s''
head_end {p} ends q n i end out out₁ out₂ s s' s'' wide z is rowed was =
    let none : was.left ≡ 0 = run_none ends was.left end (subst (λ x. Run p.after p.size was.left x end) z was.run) in
    let named : Named p rowed.os (arity_at p.sig q) 0 = subst (λ k. Named p rowed.os k 0) wide rowed.named in
    let row_of : Added p.sig (top (arity_at p.sig q)) inside out out₁ n (λ α ρ. span α 1 (arity_at p.sig q) ≡ values p ρ (arity_at p.sig q) 0) (λ ρ. nil) s s' = record {
      words = row Gets 1 rowed.os;
      longer = rowed.longer;
      exact = rowed.exact;
      lawful = row_lawful p.sig Gets 1 rowed.os rowed.fair;
      size = row_long Gets 1 rowed.os ∙ named_long rowed.named;
      emits = emits_gets p named;
      script = gets rowed.os (named_long named);
      flows = λ rest h. row_flows p.sig Gets 1 rest rowed.fills h;
      more = fills_more rowed.fills;
    } in
    record {
      here = is;
      added =
          added_as (end + before p end) (Headed p q end) (omega (arith, was.count, ap (before p) z))
          (λ α ρ x. (x.0, λ k h. x.1 k (omega arith))) (λ α ρ y. (y.0, λ k h. y.1 k (omega arith)))
          (added_on turns (added_then row_of was.added));
      ahead = was.ahead;
      done = λ k h. was.done k (omega arith);
    }

-- a run has at most as many terms as places
pub run_short : {p : Plan} → Ends p 0 → (n j m : ℕ) → Run p.after p.size n j m → j + n ≤ m
run_short ends zero j m r = omega arith
run_short {p} ends (suc n) j m r = omega (arith, ends.forth j (omega arith) r.0, run_short ends n (p.after j) m r.1)

pub before_up : (p : Plan) (i j : ℕ) → i ≤ j → before p i ≤ before p j
before_up p i zero h = let z : i ≡ 0 = omega arith in omega (arith, ap (before p) z)
before_up p i (suc j) h = elim (ℕ_discrete i (suc j)) [ yes q ↦ omega (arith, ap (before p) q) | no ne ↦ omega (arith, before_up p i j (omega arith)) ]

-- the words of the next structure are among those of the head
pub head_room : {p : Plan} → Ends p 0 → {out out' : List ℕ} {n i end : ℕ} {s s' : List Bool} (was : HeadUpTo p out out' n i end s s') → i < end → n + was.size + gain p.sig (p.tok i) ≤ end + before p end
head_room {p} ends {n = n} {i = i} {end = end} was lt = go was.left was.run was.count
  where
    go : (left : ℕ) → Run p.after p.size left i end → n + was.size ≡ i + left + before p i → n + was.size + gain p.sig (p.tok i) ≤ end + before p end
    go zero r c = absurd (omega arith)
    go (suc m) r c =
        let run = run_join p.after p.size (wide p i) m (suc i) (p.after i) end (ends.runs i (omega arith) r.0) r.1 in
        omega (arith, gain_is p.sig (p.tok i), run_short ends (wide p i + m) (suc i) end run, before_up p (suc i) end (omega arith))

-- from each place inside a run there is a run to its end
nested : {p : Plan} → Ends p 0 → (d from n end : ℕ) → Run p.after p.size n from end → from + d ≤ end → (m : ℕ) × Run p.after p.size m (from + d) end
nested {p} ends zero from n end r le = (n, subst (λ x. Run p.after p.size n x end) (omega arith) r)
nested {p} ends (suc d) from zero end r le = absurd (omega arith)
nested {p} ends (suc d) from (suc n) end r le =
    let run = ends.runs from (omega arith) r.0 in
    let on = nested ends d (suc from) (wide p from + n) end (run_join p.after p.size (wide p from) n (suc from) (p.after from) end run r.1) (omega arith) in
    let z : suc from + d ≡ from + suc d = omega arith in
    (on.0, subst (λ x. Run p.after p.size on.0 x end) z on.1)

-- no term inside a run passes its end
no_further : {p : Plan} → Ends p 0 → (n from end i : ℕ) → Run p.after p.size n from end → from ≤ i → i < end → p.after i ≤ end
no_further {p} ends n from end i r lo hi =
    let on = nested ends (i - from) from n end r (omega arith) in
    let z : from + (i - from) ≡ i = omega arith in
    go on.0 (subst (λ x. Run p.after p.size on.0 x end) z on.1)
  where
    go : (m : ℕ) → Run p.after p.size m i end → p.after i ≤ end
    go zero q = absurd (omega arith)
    go (suc m) q = run_up ends m (p.after i) end (omega arith) q.1

abbrev pub goal_start : {p : Plan} → Ends p 0 → (out : List ℕ) (from end : ℕ) (s : List Bool) → from ≤ end → end ≤ p.size → Ahead p s from p.size → GoalDown p out out from end end s s
goal_start {p} ends out from end s up le ahead = record {
  size = 0;
  added = added_as 0 (λ α ρ. (k : ℕ) → end ≤ k → k < end → BuiltAt p ρ k) refl (λ α ρ (x : Unit {0}) k lo hi. absurd (omega arith)) (λ α ρ y. tt) (added_none p.sig goal out s);
  count = λ m r. omega (arith, run_none ends m end r);
  above = λ i f lo hi is. ahead i f lo (omega arith) is;
  ahead = λ i f lo hi is. ahead i f (omega arith) hi is;
  covered = λ m r k lo hi. absurd (omega arith);
}

module _ {p : Plan} (ends : Ends p 0) (apart : Apart p) {out out' out'' : List ℕ} {from i end : ℕ} {s s' s'' : List Bool} (was : GoalDown p out out' from (i + 1) end s s') (low : from ≤ i) (lt : i < end) (le : end ≤ p.size)
    (n : ℕ) (whole : Run p.after p.size n from end) (struck : Struck p goal i out' out'' s' s'') where
  down_run : (m : ℕ) → Run p.after p.size (suc m) i end → Run p.after p.size (wide p i + m) (i + 1) end
  down_run m r =
      run_join p.after p.size (wide p i) m (i + 1) (p.after i) end
      (subst (λ x. Run p.after p.size (wide p i) x (p.after i)) (sym (add-one i)) (ends.runs i (omega arith) r.0)) r.1

  down_count : (m : ℕ) → Run p.after p.size m i end → was.size + gain p.sig (p.tok i) + i + m + before p i ≡ end + before p end
  down_count zero r = absurd (omega arith)
  down_count (suc m) r = omega (arith, gain_is p.sig (p.tok i), ap (before p) (add-one i), was.count (wide p i + m) (down_run m r))

  down_covered : (m : ℕ) → Run p.after p.size m i end → (k : ℕ) → i ≤ k → k < end → MarkedAt p s'' k ⊎ ((r : ℕ) × (r < m) × (k ≡ hop p.after r i))
  down_covered zero r k lo hi = absurd (omega arith)
  down_covered (suc m) r k lo hi =
      elim (ℕ_discrete k i) [
        | yes q ↦ inr (0, omega arith, q)
        | no ne ↦
            ⊎_elim (λ a. inl (marked_at p s' s'' k struck.added.more a))
            (λ (b : (r : ℕ) × (r < wide p i + m) × (k ≡ hop p.after r (i + 1))).
            elim (dec_lt b.0 (wide p i)) [
              | yes small ↦ inl (subst (λ x. MarkedAt p s'' x) (sym (b.2 ∙ ap (hop p.after b.0) (add-one i))) (struck.all b.0 small))
              | no big ↦
                  let run = ends.runs i (omega arith) r.0 in
                  let split : b.0 ≡ wide p i + (b.0 - wide p i) = omega arith in
                  let bound : b.0 < wide p i + m = b.1 in
                  inr (
                    suc (b.0 - wide p i),
                    omega arith,
                    b.2 ∙ ap (λ x. hop p.after x (i + 1)) split ∙ hop_join p.after (wide p i) (b.0 - wide p i) (i + 1)
                        ∙ ap (hop p.after (b.0 - wide p i)) (ap (hop p.after (wide p i)) (add-one i) ∙ sym (run_hop p.after p.size (wide p i) (suc i) (p.after i) run)),
                  )
            ])
            (was.covered (wide p i + m) (down_run m r) k (omega arith) hi)
      ]

  pub goal_down : GoalDown p out out'' from i end s s''
  goal_down = record {
    size = was.size + gain p.sig (p.tok i);
    added = added_as _ (λ α ρ. (k : ℕ) → i ≤ k → k < end → BuiltAt p ρ k) refl
        (λ α ρ x k lo hi. elim (ℕ_discrete k i) [ yes z ↦ subst (λ y. BuiltAt p ρ y) (sym z) x.1 | no ne ↦ x.0 k (omega arith) hi ])
        (λ α ρ y. (λ k lo hi. y k (omega arith) hi, y i (omega arith) lt))
        (added_then was.added struck.added);
    count = down_count;
    above = λ x f lo hi is. struck_keeps ends apart i struck (omega arith) x f (omega arith) is (λ k at below q. omega arith) (was.above x f lo (omega arith) is);
    ahead = λ x f lo hi is.
        struck_keeps ends apart i struck (omega arith) x f hi is (λ k at below q. omega (arith, no_further ends n from end i whole low lt)) (was.ahead x f lo hi is);
    covered = down_covered;
  }

-- the words of the next structure are among those of the goal
goal_left : {p : Plan} → Ends p 0 → {out out' : List ℕ} {from i end : ℕ} {s s' : List Bool} (was : GoalDown p out out' from (i + 1) end s s') → from ≤ i → i < end → (m : ℕ) → Run p.after p.size m i end
    → was.size + gain p.sig (p.tok i) + (from + before p from) + 1 ≤ end + before p end
goal_left ends was lo lt zero r = absurd (omega arith)
goal_left {p} ends {from = from} {i = i} {end = end} was lo lt (suc m) r =
    let run = run_join p.after p.size (wide p i) m (suc i) (p.after i) end (ends.runs i (omega arith) r.0) r.1 in
    let run' : Run p.after p.size (wide p i + m) (i + 1) end = subst (λ x. Run p.after p.size (wide p i + m) x end) (sym (add-one i)) run in
    omega (arith, gain_is p.sig (p.tok i), was.count (wide p i + m) run', ap (before p) (add-one i), before_up p from i lo)

-- the same at an equal place
abbrev goal_at : {p : Plan} {out out' : List ℕ} {from end : ℕ} {s s' : List Bool} (i k : ℕ) → i ≡ k → GoalDown p out out' from i end s s' → GoalDown p out out' from k end s s'
goal_at {p} {out} {out'} {from} {end} {s} {s'} i k e was = record {
  size = was.size;
  added = subst (λ x. Added p.sig goal goal out out' was.size (λ α ρ. (k : ℕ) → x ≤ k → k < end → BuiltAt p ρ k) (λ ρ. nil) s s') e was.added;
  count = subst (λ x. (m : ℕ) → Run p.after p.size m x end → was.size + x + m + before p x ≡ end + before p end) e was.count;
  above = subst (λ x. Ahead p s' from x) e was.above;
  ahead = was.ahead;
  covered = subst (λ x. (m : ℕ) → Run p.after p.size m x end → (k : ℕ) → x ≤ k → k < end → MarkedAt p s' k ⊎ ((r : ℕ) × (r < m) × (k ≡ hop p.after r x))) e was.covered;
}

pub goal_room : {p : Plan} → Ends p 0 → {out out' : List ℕ} {from end : ℕ} {s s' : List Bool} (i n : ℕ) (was : GoalDown p out out' from i end s s') → from < i → i ≤ end → Run p.after p.size n from end
    → was.size + gain p.sig (p.tok (i - 1)) + (from + before p from) + 1 ≤ end + before p end
goal_room {p} ends {from = from} {end = end} i n was lo hi whole =
    let on = nested ends (i - 1 - from) from n end whole (omega arith) in
    let z : from + (i - 1 - from) ≡ i - 1 = omega arith in
    goal_left ends {i = i - 1} (goal_at i (i - 1 + 1) (omega arith) was) (omega arith) (omega arith) on.0 (subst (λ x. Run p.after p.size on.0 x end) z on.1)

-- the same turn, as the code has it: i is one more than the place
module _ {p : Plan} (ends : Ends p 0) (apart : Apart p) {out out' : List ℕ} {from end : ℕ} {s s' : List Bool} (i : ℕ) (was : GoalDown p out out' from i end s s') (some : from < i) (up : i ≤ end) (le : end ≤ p.size) where
  pub goal_turn : {out'' : List ℕ} {s'' : List Bool} (n : ℕ) → Run p.after p.size n from end → Struck p goal (i - 1) out' out'' s' s'' → GoalDown p out out'' from (i - 1) end s s''
  goal_turn n whole struck =
      goal_down ends apart (goal_at i (i - 1 + 1) (omega arith) was) (omega arith) (omega arith) le n whole struck

pub goal_end : {p : Plan} → Ends p 0 → Apart p → (q from i end : ℕ) (out out₁ out₂ out₃ : List ℕ) (s s' s'' : List Bool) (n : ℕ) (w : Instruction) → i ≡ from → end ≤ p.size → GoalDown p out out₁ from i end s s' → n ≡ arity_at p.sig q
    → Run p.after p.size (arity_at p.sig q) from end → Rowed p Puts out₁ out₂ s' s'' n from → w ≡ Call q → out₃ ≡ out₂ ++ encode w ∷ [] → decode (encode w) ≡ w → q < length p.sig → Goal p q out out₃ from end s s''
goal_end {p} ends apart q from i end out out₁ out₂ out₃ s s' s'' n w z le down wide run rowed says pushed exact known =
    let was : GoalDown p out out₁ from from end s s' = subst (λ x. GoalDown p out out₁ from x end s s') z down in
    let named : Named p rowed.os (arity_at p.sig q) from = subst (λ k. Named p rowed.os k from) wide rowed.named in
    let call : Added p.sig goal between out₁ out₃ (arity_at p.sig q + 1) (λ α ρ. Unit {0}) (λ ρ. cons (node (name_at p.sig q) (values p ρ (arity_at p.sig q) from)) nil) s' s'' = record {
      words = row Puts 1 rowed.os ++ Call q ∷ [];
      longer =
          pushed ∙ ap₂ (λ l x. l ++ encode x ∷ []) rowed.longer says ∙ append_assoc out₁ (map encode (row Puts 1 rowed.os)) (encode (Call q) ∷ [])
          ∙ ap (λ l. out₁ ++ l) (sym (map-append encode (row Puts 1 rowed.os) (Call q ∷ [])));
      exact = exact_append (row Puts 1 rowed.os) (Call q ∷ []) rowed.exact (ap (λ x. x ∷ []) (subst (λ x. decode (encode x) ≡ x) says exact));
      lawful = lawful_append p.sig (row Puts 1 rowed.os) (Call q ∷ []) (row_lawful p.sig Puts 1 rowed.os rowed.fair) (known, tt);
      size = length-append (row Puts 1 rowed.os) (Call q ∷ []) ∙ ap (λ k. k + 1) (row_long Puts 1 rowed.os ∙ named_long named);
      emits = emits_goal p q named;
      script = goes_on q rowed.os (named_long named);
      flows = λ rest h. subst (λ l. Orderly p.sig 0 0 l s') (sym (append_assoc (row Puts 1 rowed.os) (Call q ∷ []) rest)) (row_flows p.sig Puts 1 (Call q ∷ rest) rowed.fills (tt, h));
      more = fills_more rowed.fills;
    } in
    let all : (k : ℕ) → k < arity_at p.sig q → MarkedAt p s'' (hop p.after k from) = λ k h. rowed.all k (omega arith) in
    record {
      size = was.size + (arity_at p.sig q + 1);
      added = added_as _ (λ α ρ. (k : ℕ) → from ≤ k → k < end → BuiltAt p ρ k) refl (λ α ρ x. x.0) (λ α ρ y. (y, tt)) (added_from begins (added_then was.added call));
      count = omega (arith, was.count (arity_at p.sig q) run);
      ahead = λ x f lo hi is.
          row_keeps ends apart end rowed (subst (λ k. Run p.after p.size k from end) (sym wide) run) le x f hi is (λ k at below q. omega arith) (was.ahead x f lo hi is);
      done = λ k lo hi. ⊎_elim (λ a. marked_at p s' s'' k (fills_more rowed.fills) a) (λ b. subst (λ x. MarkedAt p s'' x) (sym b.2) (all b.0 b.1)) (was.covered (arity_at p.sig q) run k lo hi);
    }

pub structures_more : (ts : List Item) (i : ℕ) → i < length ts → structures (take (i + 1) ts) ≡ structures (take i ts) + single (get_or ts i (Atom 0))
structures_more ts i lt = ap (λ k. structures (take k ts)) (add-one i) ∙ go ts i lt
  where
    go : (ts : List Item) (i : ℕ) → i < length ts → structures (take (suc i) ts) ≡ structures (take i ts) + single (get_or ts i (Atom 0))
    go [] i lt = absurd (omega arith)
    go (Atom c ∷ ts) zero lt = refl
    go (Structure f ∷ ts) zero lt = refl
    go (Variable v ∷ ts) zero lt = refl
    go (Atom c ∷ ts) (suc i) lt = go ts i (omega arith)
    go (Structure f ∷ ts) (suc i) lt = ap suc (go ts i (omega arith)) ∙ omega arith
    go (Variable v ∷ ts) (suc i) lt = go ts i (omega arith)

pub structures_up : (ts : List Item) (i : ℕ) → structures (take i ts) ≤ structures ts
structures_up ts zero = omega arith
structures_up [] (suc i) = omega arith
structures_up (Atom c ∷ ts) (suc i) = structures_up ts i
structures_up (Structure f ∷ ts) (suc i) = omega (arith, structures_up ts i)
structures_up (Variable v ∷ ts) (suc i) = structures_up ts i

before_is : (sig : Signature) (ts : List Item) (es ss : List ℕ) (i : ℕ) → i ≤ length ts → before (plan sig ts es ss) i ≡ structures (take i ts)
before_is sig ts es ss zero le = refl
before_is sig ts es ss (suc i) le =
    let one = structures_more ts i (omega arith) in
    let two = ap (λ k. structures (take k ts)) (add-one i) in
    omega (arith, before_is sig ts es ss i (omega arith), one, two)

pub before_all : (sig : Signature) (ts : List Item) (es ss : List ℕ) → before (plan sig ts es ss) (length ts) ≡ structures ts
before_all sig ts es ss = before_is sig ts es ss (length ts) (omega arith) ∙ ap structures (take_all (length ts) ts (omega arith))

pub hefts_is : (ts : List Item) → hefts ts ≡ length ts + structures ts
hefts_is [] = refl
hefts_is (Atom c ∷ ts) = omega (arith, hefts_is ts)
hefts_is (Structure f ∷ ts) = omega (arith, hefts_is ts)
hefts_is (Variable v ∷ ts) = omega (arith, hefts_is ts)

pub parts_long : (ts : List Item) → variables ts + structures ts ≤ length ts
parts_long [] = omega arith
parts_long (Atom c ∷ ts) = omega (arith, parts_long ts)
parts_long (Structure f ∷ ts) = omega (arith, parts_long ts)
parts_long (Variable v ∷ ts) = omega (arith, parts_long ts)

-- Ends do not hang on slots
pub ends_any : (sig : Signature) (ts : List Item) (es ss ss' : List ℕ) → Ends (plan sig ts es ss) 0 → Ends (plan sig ts es ss') 0
ends_any sig ts es ss ss' e = record { forth = e.forth; within = e.within; runs = e.runs }

past_push : (p : Plan) (ps : List ℕ) (q j : ℕ) → past p (ps ++ q ∷ []) j ≡ hop p.after (arity_at p.sig q) (past p ps j)
past_push p [] q j = refl
past_push p (r ∷ ps) q j = past_push p ps q (hop p.after (arity_at p.sig r) j)

calls_push : (p : Plan) (ρ : Terming) (ps : List ℕ) (q j : ℕ) → calls p ρ (ps ++ q ∷ []) j ≡ join (calls p ρ ps j) (cons (node (name_at p.sig q) (values p ρ (arity_at p.sig q) (past p ps j))) nil)
calls_push p ρ [] q j = refl
calls_push p ρ (r ∷ ps) q j = ap (cons (node (name_at p.sig r) (values p ρ (arity_at p.sig r) j))) (calls_push p ρ ps q (hop p.after (arity_at p.sig r) j))

abbrev pub body_start : (p : Plan) (from : ℕ) (ps : List ℕ) (out : List ℕ) (s : List Bool) → from ≤ p.size → Ahead p s from p.size → BodyUpTo p ps out out from 0 from s s
body_start p from ps out s le ahead = record {
  here = refl;
  within = le;
  order = omega arith;
  size = 0;
  added = added_as 0 (λ α ρ. (i : ℕ) → from ≤ i → i < from → BuiltAt p ρ i) refl (λ α ρ (x : Unit {0}) k lo hi. absurd (omega arith)) (λ α ρ y. tt) (added_none p.sig between out s);
  count = omega arith;
  ahead = ahead;
  done = λ k lo hi. absurd (omega arith);
}

pub body_turn : {p : Plan} (from k at end r : ℕ) (ps : List ℕ) (out out' out'' : List ℕ) (s s' s'' : List Bool) → k < length ps → r ≡ get_or ps k 0 → at ≤ end → end ≤ p.size → end ≡ hop p.after (arity_at p.sig r) at
    → BodyUpTo p ps out out' from k at s s' → Goal p r out' out'' at end s' s'' → BodyUpTo p ps out out'' from (k + 1) end s s''
body_turn {p} from k at end r ps out out' out'' s s' s'' lt is up le then was one =
    let more : take (k + 1) ps ≡ take k ps ++ r ∷ [] = take_more ps k 0 lt ∙ ap (λ x. take k ps ++ x ∷ []) (sym is) in
    record {
      here = then ∙ ap (hop p.after (arity_at p.sig r)) was.here ∙ sym (past_push p (take k ps) r from) ∙ ap (λ l. past p l from) (sym more);
      within = le;
      order = omega (arith, was.order);
      size = was.size + one.size;
      added =
          added_as _ (λ α ρ. (i : ℕ) → from ≤ i → i < end → BuiltAt p ρ i) refl
          (λ α ρ x i lo h. elim (dec_lt i at) [ yes below ↦ x.0 i lo below | no hi ↦ x.1 i (omega arith) h ])
          (λ α ρ y. (λ i lo h. y i lo (omega arith), λ i lo h. y i (omega (arith, was.order)) h))
          (added_goals (λ ρ. calls p ρ (take (k + 1) ps) from)
          (λ ρ. ap (λ a. join (calls p ρ (take k ps) from) (cons (node (name_at p.sig r) (values p ρ (arity_at p.sig r) a)) nil)) was.here ∙ sym (calls_push p ρ (take k ps) r from) ∙ ap (λ l. calls p ρ l from) (sym more))
          (added_then was.added one.added));
      count = omega (arith, was.count, one.count);
      ahead = one.ahead;
      done = λ i lo h. elim (dec_lt i at) [ yes below ↦ marked_at p s' s'' i one.added.more (was.done i lo below) | no hi ↦ one.done i (omega arith) h ];
    }

-- the terms that are left before a goal, and after it
module _ (sig : Signature) (ts : List Item) (es ss : List ℕ) (ends : Ends (plan sig ts es ss) 0) (ps : List ℕ) (k at r : ℕ) (lt : k < length ps) (is : r ≡ get_or ps k 0)
    (left : arities sig (drop k ps) ≡ count (stack sig ts at)) where
  left_cut : arities sig (drop k ps) ≡ arity_at sig r + arities sig (drop (k + 1) ps)
  left_cut = ap (arities sig) (drop_more ps k 0 lt) ∙ ap (λ x. arity_at sig x + arities sig (drop (k + 1) ps)) (sym is)

  pub left_run : Run (λ i. get_or es i 0) (length ts) (arity_at sig r) at (hop (λ i. get_or es i 0) (arity_at sig r) at)
  left_run = run_there sig ts es ss 0 ends (arity_at sig r) at (omega arith) (omega (arith, left_cut))

  pub left_next : arities sig (drop (k + 1) ps) ≡ count (stack sig ts (hop (λ i. get_or es i 0) (arity_at sig r) at))
  left_next = omega (arith, left_cut, ap count (skips sig ts es ss 0 ends (arity_at sig r) at _ (omega arith) left_run), count_back (arity_at sig r) (stack sig ts at))

module _ (sig : Signature) (ts : List Item) (es ss : List ℕ) (q : ℕ) (ps : List ℕ) (k at from : ℕ) (all : k ≡ length ps) (left : arities sig (drop k ps) ≡ count (stack sig ts at))
    (out out₁ out₂ : List ℕ) (s s' s'' : List Bool) (head : Opened (plan sig ts es ss) q from out out₁ s s') (body : BodyUpTo (plan sig ts es ss) ps out₁ out₂ from k at s' s'') where
  pub at_end : at ≡ length ts
  at_end =
      elim (dec_lt at (length ts)) [
        | yes lt ↦ absurd (omega (arith, left, ap (arities sig) (drop_all k ps (omega arith)), ap count (stack_at sig ts at lt)))
        | no ge ↦ omega (arith, body.within)
      ]

  pub body_end : Written (plan sig ts es ss) q ps out out₂ s s''
  body_end = record {
    added =
        added_goals (λ ρ. calls (plan sig ts es ss) ρ ps (hop (λ i. get_or es i 0) (arity_at sig q) 0))
        (λ ρ. ap₂ (λ l j. calls (plan sig ts es ss) ρ l j) (take_all k ps (omega arith)) head.here)
        (added_as _ (Told (plan sig ts es ss) q) (omega (arith, body.count, at_end, ap (before (plan sig ts es ss)) at_end))
        (λ α ρ x. (x.0.0, λ i h. elim (dec_lt i from) [ yes lo ↦ x.0.1 i lo | no hi ↦ x.1 i (omega arith) (omega (arith, at_end)) ]))
        (λ α ρ y. ((y.0, λ i h. y.1 i (omega (arith, body.order, body.within))), λ i lo h. y.1 i (omega (arith, at_end))))
        (added_then head.added body.added));
    done = λ i h.
        elim (dec_lt i from) [
          | yes lo ↦ marked_at (plan sig ts es ss) s' s'' i body.added.more (head.done i lo)
          | no hi ↦ body.done i (omega arith) (omega (arith, at_end))
        ];
  }

calls_count : (p : Plan) (ρ : Terming) (ps : List ℕ) (j : ℕ) → count (calls p ρ ps j) ≡ length ps
calls_count p ρ [] j = refl
calls_count p ρ (q ∷ ps) j = ap suc (calls_count p ρ ps _)

-- what the code of a clause is, and what it does
pub record Coded (sig : Signature) (q vars n : ℕ) (ps : List ℕ) (ts : List Item) (out out' : List ℕ) (s : List Bool) : Type 0 where
  pub code : List Instruction
  pub longer : out' ≡ out ++ map encode code
  pub exact : map decode (map encode code) ≡ code
  pub size : length code ≡ weight ps ts + 2
  pub carries : Carries sig q ps ts code
  pub goals : total (within 16 16) code ≡ length ps
  pub script : Script sig (start (arity_at sig q)) over code
  pub lawful : Lawfuls sig code
  pub orderly : Orderly sig 0 0 code s
  pub opens : (raw : List ℕ) × (map encode code ≡ encode (Allocate n) ∷ raw)

module _ (sig : Signature) (vars q n : ℕ) (ps : List ℕ) (ts : List Item) (es ss : List ℕ) (ends : Ends (plan sig ts es ss) 0) (num : Numbered vars ts) (slotted : Slotted vars ts ss)
    (full : arity_at sig q + arities sig ps ≡ count (reads sig ts)) (out₀ out out₁ out₂ : List ℕ) (s s' : List Bool) (begun : out ≡ out₀ ++ encode (Allocate n) ∷ []) (first : decode (encode (Allocate n)) ≡ Allocate n) (few : n ≤ 128)
    (was : Written (plan sig ts es ss) q ps out out₁ s s') (closed : out₂ ≡ out₁ ++ encode Proceed ∷ []) where
  final : Added sig (start (arity_at sig q)) over out₀ out₂ (1 + (length ps + length ts + before (plan sig ts es ss) (length ts)) + 1) (Told (plan sig ts es ss) q) (λ ρ. calls (plan sig ts es ss) ρ ps (hop (λ i. get_or es i 0) (arity_at sig q) 0)) s s'
  final =
      added_goals (λ ρ. calls (plan sig ts es ss) ρ ps (hop (λ i. get_or es i 0) (arity_at sig q) 0)) (λ ρ. join_nil _)
      (added_as _ (Told (plan sig ts es ss) q) refl (λ α ρ x. x.0.1) (λ α ρ y. ((tt, y), tt))
      (added_then (added_then (record { words = Allocate n ∷ []; longer = begun; exact = ap (λ x. x ∷ []) first; lawful = (few, tt); size = refl; script = allocates; emits = emits_allocate sig n; flows = λ rest h. (tt, h); more = λ z h. h }) was.added)
      (record { words = Proceed ∷ []; longer = closed; exact = refl; lawful = (tt, tt); size = refl; script = stops; emits = emits_proceed sig; flows = λ rest h. (tt, h); more = λ z h. h })))

  code_orderly : Used vars ts → length s' ≡ vars + structures ts → Orderly sig 0 0 final.words s
  code_orderly used long =
      subst (λ l. Orderly sig 0 0 l s) (append-nil final.words)
      (final.flows [] (λ y lt.
      elim (dec_lt y vars) [
        | yes low ↦ (let u = used y low in subst (λ k. Marked k (get_or ss u.0 0) s') u.2 (was.done u.0 u.1))
        | no high ↦
            (let u = some_structure ts (y - vars) (omega arith) in
            let mark = subst (λ k. Marked k (get_or ss u.0 0) s') u.3 (was.done u.0 u.2) in
            let z : vars + structures (take u.0 ts) ≡ y = omega (arith, u.4) in
            subst (λ x. Filled s' x) (slotted u.0 u.2 ∙ z) mark)
      ]))
    where
      some_structure : (ts : List Item) (k : ℕ) → k < structures ts → (i : ℕ) × (f : ℕ) × (i < length ts) × (get_or ts i (Atom 0) ≡ Structure f) × (structures (take i ts) ≡ k)
      some_structure [] k h = absurd (omega arith)
      some_structure (Atom c ∷ ts) k h = let r = some_structure ts k h in (suc r.0, r.1, omega (arith, r.2), r.3, r.4)
      some_structure (Variable v ∷ ts) k h = let r = some_structure ts k h in (suc r.0, r.1, omega (arith, r.2), r.3, r.4)
      some_structure (Structure f ∷ ts) zero h = (0, f, omega arith, refl, refl)
      some_structure (Structure f ∷ ts) (suc k) h = let r = some_structure ts k (omega arith) in (suc r.0, r.1, omega (arith, r.2), r.3, ap suc r.4)

  pub coded : Used vars ts → length s' ≡ vars + structures ts → Coded sig q vars n ps ts out₀ out₂ s
  coded used long = record {
    code = final.words;
    longer = final.longer;
    exact = final.exact;
    size = omega (arith, final.size, before_is sig ts es ss (length ts) (omega arith), ap structures (take_all (length ts) ts (omega arith)), hefts_is ts);
    carries = carries sig vars q ps ts es ss ends num slotted (omega arith) final.words final.emits;
    goals =
        sym (goals_count (symbols_of sig) final.words var var)
        ∙ ap count (ap (λ l. goals (symbols_of sig) l var var) (sym (append-nil final.words)) ∙ final.emits.leaves var [] ∙ join_nil _)
        ∙ calls_count (plan sig ts es ss) var ps _;
    script = final.script;
    lawful = final.lawful;
    orderly = code_orderly used long;
    opens = (
      map encode was.added.words ++ encode Proceed ∷ [],
      append_cancel_left out₀ _ _
          (sym final.longer ∙ closed ∙ ap (λ l. l ++ encode Proceed ∷ []) (was.added.longer ∙ ap (λ l. l ++ map encode was.added.words) begun)
          ∙ append_assoc (out₀ ++ encode (Allocate n) ∷ []) (map encode was.added.words) (encode Proceed ∷ [])
          ∙ append_assoc out₀ (encode (Allocate n) ∷ []) (map encode was.added.words ++ encode Proceed ∷ [])),
    );
  }

-- the slot of a structure is below their number
pub slot_below : (vars : ℕ) (ts : List Item) (ss : List ℕ) → Slotted vars ts ss → (i f : ℕ) → i < length ts → get_or ts i (Atom 0) ≡ Structure f → get_or ss i 0 < vars + structures ts
slot_below vars ts ss slotted i f lt is = omega (arith, slotted i lt, structures_more ts i lt, structures_up ts (i + 1), ap single is)

pub numbered_more : (n m : ℕ) (ts : List Item) → n ≤ m → Numbered n ts → Numbered m ts
numbered_more n m [] h num = tt
numbered_more n m (Atom c ∷ ts) h num = numbered_more n m ts h num
numbered_more n m (Structure f ∷ ts) h num = numbered_more n m ts h num
numbered_more n m (Variable v ∷ ts) h num = (omega (arith, num.0), numbered_more n m ts h num.1)

-- the terms that are left after the head
module _ (sig : Signature) (ts : List Item) (es ss : List ℕ) (ends : Ends (plan sig ts es ss) 0) (q : ℕ) (ps : List ℕ) (full : arity_at sig q + arities sig ps ≡ count (reads sig ts)) where
  pub first_run : Run (λ i. get_or es i 0) (length ts) (arity_at sig q) 0 (hop (λ i. get_or es i 0) (arity_at sig q) 0)
  first_run = run_there sig ts es ss 0 ends (arity_at sig q) 0 (omega arith) (omega arith)

  pub first_left : arities sig ps ≡ count (stack sig ts (hop (λ i. get_or es i 0) (arity_at sig q) 0))
  first_left = omega (arith, ap count (skips sig ts es ss 0 ends (arity_at sig q) 0 _ (omega arith) first_run), count_back (arity_at sig q) (reads sig ts))

  pub first_within : hop (λ i. get_or es i 0) (arity_at sig q) 0 ≤ length ts
  first_within = run_within ends (arity_at sig q) 0 _ (omega arith) first_run (omega arith)

structures_mono : (ts : List Item) (i j : ℕ) → i ≤ j → structures (take i ts) ≤ structures (take j ts)
structures_mono ts zero j le = omega arith
structures_mono [] (suc i) zero le = absurd (omega arith)
structures_mono [] (suc i) (suc j) le = omega arith
structures_mono (t ∷ ts) (suc i) zero le = absurd (omega arith)
structures_mono (Atom c ∷ ts) (suc i) (suc j) le = structures_mono ts i j (omega arith)
structures_mono (Variable v ∷ ts) (suc i) (suc j) le = structures_mono ts i j (omega arith)
structures_mono (Structure f ∷ ts) (suc i) (suc j) le = omega (arith, structures_mono ts i j (omega arith))

-- the slot of a structure is that of no other place
slot_apart : (vars : ℕ) (ts : List Item) (ss : List ℕ) → Slotted vars ts ss → Numbered vars ts → (i j f : ℕ) → i < length ts → j < length ts → get_or ts i (Atom 0) ≡ Structure f → (i ≡ j → ⊥)
    → (k : Item) → get_or ts j (Atom 0) ≡ k → Off k (get_or ss j 0) (get_or ss i 0)
slot_apart vars ts ss slotted num i j f li lj is ne (Atom c) at = tt
slot_apart vars ts ss slotted num i j f li lj is ne (Variable v) at = λ q. absurd (omega (arith, slotted i li, numbered_at vars ts j v num at))
slot_apart vars ts ss slotted num i j f li lj is ne (Structure g) at = λ q.
    elim (dec_lt i j) [
      | yes lt ↦ absurd (omega (arith, slotted i li, slotted j lj, structures_more ts i li, ap single is, structures_mono ts (i + 1) j (omega arith)))
      | no ge ↦
          (let other : j < i = elim (ℕ_discrete i j) [ yes z ↦ absurd (ne z) | no z ↦ omega arith ] in
          absurd (omega (arith, slotted i li, slotted j lj, structures_more ts j lj, ap single at, structures_mono ts (j + 1) i (omega arith))))
    ]

pub ready_made : (l : Flat) (n vars : ℕ) → Ends (plan (signature l.symbols.now) (items_of l.places.now) (ends_of l.places.now) []) 0
    → Slotted vars (items_of l.places.now) (slots_of l.places.now) → Numbered vars (items_of l.places.now) → Known (signature l.symbols.now) (items_of l.places.now) → n ≡ vars + structures (items_of l.places.now) → Ready l n
ready_made l n vars ends slotted num known is = record {
  ends = ends_any _ (items_of l.places.now) (ends_of l.places.now) [] (slots_of l.places.now) ends;
  slots = λ i f lt at. omega (arith, is, slot_below vars (items_of l.places.now) (slots_of l.places.now) slotted i f lt at);
  vars = numbered_more vars n (items_of l.places.now) (omega arith) num;
  apart = λ i j f li lj at ne. slot_apart vars (items_of l.places.now) (slots_of l.places.now) slotted num i j f li lj at ne (get_or (items_of l.places.now) j (Atom 0)) refl;
  known = known;
}

-- at first every slot is empty
pub all_empty : (p : Plan) (s : List Bool) (n : ℕ) → s ≡ replicate n false → ((i f : ℕ) → i < p.size → p.tok i ≡ Structure f → p.slot i < n) → Ahead p s 0 p.size
all_empty p s n is below = λ i f lo lt at. ap (λ l. get_or l (p.slot i) true) is ∙ get_or-replicate n (p.slot i) false true (below i f lt at)

-- the slot of a structure is still empty once its arguments are set
pub still_empty : {p : Plan} → Ends p 0 → Apart p → {r : Role} {out out' : List ℕ} {s s' : List Bool} {n : ℕ} (i f : ℕ) → i < p.size → p.tok i ≡ Structure f → n ≡ arity_at p.sig f
    → Rowed p r out out' s s' n (i + 1) → Ahead p s i (i + 1) → Empty s' (p.slot i)
still_empty {p} ends apart {n = n} i f lt is wide rowed empty =
    let run = structure_run p ends i f lt is in
    let run' : Run p.after p.size n (i + 1) (hop p.after (arity_at p.sig f) (i + 1)) = subst (λ k. Run p.after p.size k (i + 1) (hop p.after (arity_at p.sig f) (i + 1))) (sym wide) run in
    row_keeps ends apart _ rowed run' (run_within ends n (i + 1) _ (omega arith) run' (omega arith)) i f lt is (λ k lo hi q. omega arith) (empty i f (omega arith) (omega arith) is)
