use Rattle.std.proofs.Common.{refl, ◌∙◌, subst, arith, rules}
use Rattle.symbol_table.specs.Symbols.{arity_at}
use Rattle.symbol_table.specs.Tables.{signature}
use Rattle.compiler.specs.Emits.{Rowed}
use Rattle.compiler.specs.Tables.{laid}
use Rattle.compiler.specs.Rows.{Gets}
use Rattle.compiler.proofs.PlaceLaws.{run_within}
use Rattle.compiler.proofs.TableLaws.{run_hop, run_own, places_long}
use Rattle.compiler.proofs.EmitLaws.{added_long}
use Rattle.compiler.proofs.StepLaws.{head_start, head_marked, head_turn, head_end, head_room, run_short}
use Rattle.compiler.proofs.flat.Flat.open_head.Goals as goal
use Rattle.compiler.proofs.flat.Flat.open_head.Goals.{After-write_row}

pub write_row-requires-clause-run : goal.write_row-requires-clause-run
write_row-requires-clause-run c = run_own (laid c.args.self.now).after _ _ 0 _ _ c.requires.run c.arity.ensures.value

pub write_row-requires-clause-room : goal.write_row-requires-clause-room
write_row-requires-clause-room c = omega (arith, c.requires.room, c.arity.ensures.value, run_short c.requires.ready.ends _ 0 _ c.requires.run)

rowed : (c : After-write_row)
    → Rowed (laid c.args.self.now) Gets c.args.draft.now.words.items c.write_row.new.draft.words.items c.args.draft.now.filled.items c.write_row.new.draft.filled.items (arity_at (signature c.args.self.now.symbols.now) c.args.p) 0
rowed c =
    subst (λ n. Rowed (laid c.args.self.now) Gets c.args.draft.now.words.items c.write_row.new.draft.words.items c.args.draft.now.filled.items c.write_row.new.draft.filled.items n 0)
    c.arity.ensures.value (c.write_row.ensures.rowed Gets (λ o a i h. search rules))

pub loop-i-init : goal.loop-i-init
loop-i-init c = record {
  opened = head_start c.requires.ready.ends c.requires.ready.apart _ _ _ _ _ _ (rowed (goal.at.loop-i-init c).After-write_row) c.requires.run c.requires.ahead;
  slots = refl;
}

pub take_apart-requires-clause-within : goal.take_apart-requires-clause-within
take_apart-requires-clause-within c = omega (arith, run_within c.requires.ready.ends _ 0 _ (omega arith) c.requires.run (omega arith), places_long c.args.self.now.places.now)

pub take_apart-requires-clause-marked : goal.take_apart-requires-clause-marked
take_apart-requires-clause-marked c = head_marked c.loop-i.invariant.opened c.loop-i-test.true

pub take_apart-requires-clause-room : goal.take_apart-requires-clause-room
take_apart-requires-clause-room c =
    omega (arith, head_room c.requires.ready.ends c.loop-i.invariant.opened c.loop-i-test.true, added_long c.loop-i.invariant.opened.added, c.write_row.ensures.words, c.arity.ensures.value, c.requires.room)

pub loop-i-preserved : goal.loop-i-preserved
loop-i-preserved c = record {
  opened = head_turn c.requires.ready.ends c.requires.ready.apart c.loop-i.invariant.opened c.loop-i-test.true c.take_apart.ensures.struck;
  slots = c.take_apart.ensures.slots ∙ c.loop-i.invariant.slots;
}

pub returns-clause-opened : goal.returns-clause-opened
returns-clause-opened c =
    head_end c.requires.ready.ends c.args.p _ _ _ _ _ _ _ _ _ refl (omega arith) (run_hop _ _ _ _ _ c.requires.run) (rowed (goal.at.returns-clause-opened c).After-write_row) c.loop-i.invariant.opened
