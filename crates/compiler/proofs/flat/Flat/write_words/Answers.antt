use Rattle.std.proofs.Common.{◌≡◌, ◌≤◌, get_or, sym, refl, ap, ◌∙◌, subst, arith}
use Rattle.horn.specs.Terms.{count}
use Rattle.symbol_table.specs.Symbols.{arity_at}
use Rattle.symbol_table.specs.Tables.{signature}
use Rattle.compiler.specs.Terms.{hop}
use Rattle.compiler.specs.Places.{Run}
use Rattle.compiler.specs.Tables.{items_of, ends_of, slots_of, laid, table}
use Rattle.compiler.proofs.ReadLaws.{stack}
use Rattle.compiler.proofs.PlaceLaws.{run_within, run_up}
use Rattle.compiler.proofs.TableLaws.{run_own, run_to, places_long}
use Rattle.compiler.proofs.EmitLaws.{added_long}
use Rattle.compiler.proofs.StepLaws.{first_run, first_left, first_within, body_start, body_turn, body_end, left_run, left_next, before_up}
use Rattle.compiler.proofs.flat.Flat.write_words.Goals as goal
use Rattle.compiler.proofs.flat.Flat.write_words.Goals.{Start, After-skip-end, At-loop-p, After-skip-end-in-loop-p}

-- the head's arguments
head_run : (c : Start) → Run (laid c.args.self.now).after (laid c.args.self.now).size (arity_at (signature c.args.self.now.symbols.now) c.args.head) 0 (hop (laid c.args.self.now).after (arity_at (signature c.args.self.now.symbols.now) c.args.head) 0)
head_run c = first_run (signature c.args.self.now.symbols.now) (items_of c.args.self.now.places.now) (ends_of c.args.self.now.places.now) (slots_of c.args.self.now.places.now) c.requires.ready.ends c.args.head c.args.goals.now c.requires.full

pub skip-end-requires : goal.skip-end-requires
skip-end-requires c =
    subst (λ n. Run (table (ends_of c.args.self.now.places.now)) n c.arity.result 0 (hop (table (ends_of c.args.self.now.places.now)) c.arity.result 0)) (places_long c.args.self.now.places.now)
    (run_own _ _ _ 0 _ _ (head_run (goal.at.skip-end-requires c).Start) c.arity.ensures.value)

-- the end of the head
here : (c : After-skip-end) → c.skip-end.result ≡ hop (table (ends_of c.args.self.now.places.now)) (arity_at (signature c.args.self.now.symbols.now) c.args.head) 0
here c = c.skip-end.ensures ∙ ap (λ n. hop (table (ends_of c.args.self.now.places.now)) n 0) c.arity.ensures.value

within : (c : After-skip-end) → c.skip-end.result ≤ (laid c.args.self.now).size
within c = omega (arith, here c, first_within (signature c.args.self.now.symbols.now) (items_of c.args.self.now.places.now) (ends_of c.args.self.now.places.now) (slots_of c.args.self.now.places.now) c.requires.ready.ends c.args.head c.args.goals.now c.requires.full)

pub open_head-requires-clause-run : goal.open_head-requires-clause-run
open_head-requires-clause-run c = run_to _ _ _ 0 _ _ (head_run (goal.at.open_head-requires-clause-run c).Start) c.arity.ensures.value c.skip-end.ensures

pub open_head-requires-clause-room : goal.open_head-requires-clause-room
open_head-requires-clause-room c =
    let le = within (goal.at.open_head-requires-clause-room c).After-skip-end in
    omega (arith, c.requires.room, le, before_up (laid c.args.self.now) c.skip-end.result (laid c.args.self.now).size le)

pub loop-p-init : goal.loop-p-init
loop-p-init c =
    let s = (goal.at.loop-p-init c).After-skip-end in
    record {
      body = body_start (laid c.args.self.now) _ _ _ _ (within s) c.open_head.ensures.opened.ahead;
      left = first_left (signature c.args.self.now.symbols.now) (items_of c.args.self.now.places.now) (ends_of c.args.self.now.places.now) (slots_of c.args.self.now.places.now) c.requires.ready.ends c.args.head c.args.goals.now c.requires.full
          ∙ ap (λ j. count (stack (signature c.args.self.now.symbols.now) (items_of c.args.self.now.places.now) j)) (sym (here s));
      slots = refl;
    }

pub skip-end-requires-in-loop-p : goal.skip-end-requires-in-loop-p
skip-end-requires-in-loop-p c =
    subst (λ n. Run (table (ends_of c.args.self.now.places.now)) n c.arity-in-loop-p.result c.loop-p.end (hop (table (ends_of c.args.self.now.places.now)) c.arity-in-loop-p.result c.loop-p.end)) (places_long c.args.self.now.places.now)
    (run_own _ _ _ c.loop-p.end _ _ (left_run (signature c.args.self.now.symbols.now) (items_of c.args.self.now.places.now) (ends_of c.args.self.now.places.now) (slots_of c.args.self.now.places.now) c.requires.ready.ends c.args.goals.now c.loop-p.p-index c.loop-p.end (get_or c.args.goals.now c.loop-p.p-index 0) c.loop-p-test.true refl c.loop-p.invariant.left) c.arity-in-loop-p.ensures.value)

-- the next goal's arguments
goal_run : (c : After-skip-end-in-loop-p) → Run (laid c.args.self.now).after (laid c.args.self.now).size (arity_at (signature c.args.self.now.symbols.now) (get_or c.args.goals.now c.loop-p.p-index 0)) c.loop-p.end c.skip-end-in-loop-p.result
goal_run c = run_to _ _ _ c.loop-p.end _ _ (left_run (signature c.args.self.now.symbols.now) (items_of c.args.self.now.places.now) (ends_of c.args.self.now.places.now) (slots_of c.args.self.now.places.now) c.requires.ready.ends c.args.goals.now c.loop-p.p-index c.loop-p.end (get_or c.args.goals.now c.loop-p.p-index 0) c.loop-p-test.true refl c.loop-p.invariant.left) c.arity-in-loop-p.ensures.value c.skip-end-in-loop-p.ensures

goal_within : (c : After-skip-end-in-loop-p) → c.skip-end-in-loop-p.result ≤ (laid c.args.self.now).size
goal_within c = run_within c.requires.ready.ends _ c.loop-p.end _ (omega arith) (goal_run c) c.loop-p.invariant.body.within

goal_up : (c : After-skip-end-in-loop-p) → c.loop-p.end ≤ c.skip-end-in-loop-p.result
goal_up c = run_up c.requires.ready.ends _ c.loop-p.end _ (omega arith) (goal_run c)

pub add_goal-requires-clause-run : goal.add_goal-requires-clause-run
add_goal-requires-clause-run c = goal_run (goal.at.add_goal-requires-clause-run c).After-skip-end-in-loop-p

pub add_goal-requires-clause-room : goal.add_goal-requires-clause-room
add_goal-requires-clause-room c =
    let s = (goal.at.add_goal-requires-clause-room c).After-skip-end-in-loop-p in
    omega (
      arith,
      c.requires.room,
      c.loop-p.invariant.body.count,
      added_long c.loop-p.invariant.body.added,
      added_long c.open_head.ensures.opened.added,
      goal_within s,
      goal_up s,
      before_up (laid c.args.self.now) c.skip-end-in-loop-p.result (laid c.args.self.now).size (goal_within s),
      before_up (laid c.args.self.now) c.loop-p.end c.skip-end-in-loop-p.result (goal_up s),
      c.loop-p-test.true,
    )

pub loop-p-preserved : goal.loop-p-preserved
loop-p-preserved c =
    let s = (goal.at.loop-p-preserved c).After-skip-end-in-loop-p in
    let next = c.skip-end-in-loop-p.ensures ∙ ap (λ n. hop (table (ends_of c.args.self.now.places.now)) n c.loop-p.end) c.arity-in-loop-p.ensures.value in
    record {
      body = body_turn {p = laid c.args.self.now} _ c.loop-p.p-index c.loop-p.end _ (get_or c.args.goals.now c.loop-p.p-index 0) c.args.goals.now _ _ _ _ _ _ c.loop-p-test.true refl (goal_up s) (goal_within s) next c.loop-p.invariant.body c.add_goal.ensures.goal;
      left = left_next (signature c.args.self.now.symbols.now) (items_of c.args.self.now.places.now) (ends_of c.args.self.now.places.now) (slots_of c.args.self.now.places.now) c.requires.ready.ends c.args.goals.now c.loop-p.p-index c.loop-p.end (get_or c.args.goals.now c.loop-p.p-index 0) c.loop-p-test.true refl c.loop-p.invariant.left
          ∙ ap (λ j. count (stack (signature c.args.self.now.symbols.now) (items_of c.args.self.now.places.now) j)) (sym next);
      slots = c.add_goal.ensures.slots ∙ c.loop-p.invariant.slots;
    }

pub returns-clause-written : goal.returns-clause-written
returns-clause-written c =
    body_end (signature c.args.self.now.symbols.now) (items_of c.args.self.now.places.now) (ends_of c.args.self.now.places.now) (slots_of c.args.self.now.places.now) c.args.head c.args.goals.now c.loop-p.p-index c.loop-p.end _ (omega arith) c.loop-p.invariant.left _ _ _ _ _ _ c.open_head.ensures.opened c.loop-p.invariant.body
