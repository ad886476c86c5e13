use Rattle.std.proofs.Common.{◌≤◌, sym, refl, ◌∙◌, subst, arith, rules}
use Rattle.compiler.specs.Steps.{Goal}
use Rattle.compiler.specs.Tables.{laid}
use Rattle.compiler.specs.Rows.{Puts}
use Rattle.compiler.proofs.PlaceLaws.{run_within, run_up}
use Rattle.compiler.proofs.TableLaws.{run_own, places_long}
use Rattle.compiler.proofs.EmitLaws.{added_long}
use Rattle.compiler.proofs.StepLaws.{goal_start, goal_turn, goal_end, goal_room}
use Rattle.compiler.proofs.flat.Flat.add_goal.Goals as goal
use Rattle.compiler.proofs.flat.Flat.add_goal.Goals.{Start, After-loop-i}

within : (c : Start) → c.args.end ≤ (laid c.args.self.now).size
within c = run_within c.requires.ready.ends _ _ _ (omega arith) c.requires.run c.requires.within

pub loop-i-init : goal.loop-i-init
loop-i-init c =
    let up = run_up c.requires.ready.ends _ _ _ (omega arith) c.requires.run in
    record { built = goal_start c.requires.ready.ends _ _ _ _ up (within (goal.at.loop-i-init c).Start) c.requires.ahead; slots = refl; low = up; high = omega arith }

pub build-requires-clause-within : goal.build-requires-clause-within
build-requires-clause-within c = let le = within (goal.at.build-requires-clause-within c).Start in omega (arith, le, places_long c.args.self.now.places.now)

pub build-requires-clause-room : goal.build-requires-clause-room
build-requires-clause-room c =
    omega (arith, goal_room c.requires.ready.ends c.loop-i.i _ c.loop-i.invariant.built c.loop-i-test.true c.loop-i.invariant.high c.requires.run, added_long c.loop-i.invariant.built.added, c.requires.room)

pub loop-i-preserved : goal.loop-i-preserved
loop-i-preserved c = record {
  built = goal_turn c.requires.ready.ends c.requires.ready.apart c.loop-i.i c.loop-i.invariant.built c.loop-i-test.true c.loop-i.invariant.high (within (goal.at.loop-i-preserved c).Start) _ c.requires.run c.build.ensures.struck;
  slots = c.build.ensures.slots ∙ c.loop-i.invariant.slots;
  low = omega arith;
  high = omega arith;
}

pub write_row-requires-clause-run : goal.write_row-requires-clause-run
write_row-requires-clause-run c = run_own (laid c.args.self.now).after _ _ c.args.from _ _ c.requires.run c.arity.ensures.value

pub returns-clause-goal : goal.returns-clause-goal
returns-clause-goal c =
    subst (λ s. Goal (laid c.args.self.now) c.args.p c.args.draft.now.words.items c.push.new.self.words.items c.args.from c.args.end c.args.draft.now.filled.items s) (sym c.push.ensures.filled)
    (goal_end c.requires.ready.ends c.requires.ready.apart c.args.p c.args.from c.loop-i.i c.args.end _ _ _ _ _ _ _ _ _ (omega arith) (within (goal.at.returns-clause-goal c).Start) c.loop-i.invariant.built c.arity.ensures.value
    c.requires.run (c.write_row.ensures.rowed Puts (λ o a i h. search rules)) refl c.push.ensures.words c.push.ensures.exact c.requires.known)
