use Rattle.std.proofs.Common.{◌≡◌, length, subst, arith}
use Rattle.cells.specs.Stores.{cells_of}
use Rattle.entering.specs.Turns.{Nothing, Turns, AllTake, Rows}
use Rattle.entry.specs.Operands.{worded}
use Rattle.cells.proofs.StoreLaws.{store_fine}
use Rattle.entry.proofs.StructureLaws.{building_none, building_more, taken_at}
use Rattle.entry.proofs.structures.build.Goals as goal

pub loop-word-init : goal.loop-word-init
loop-word-init c = building_none _ _ c.args.slots.now (worded c.args.words.now) _ (store_fine c.args.store.now) c.requires.inside

pub loop-word-preserved : goal.loop-word-preserved
loop-word-preserved c =
    let op = worded c.args.words.now in
    let l = c.loop-word in
    building_more _ _ c.args.slots.now op l.word-index (cells_of l.store) (cells_of c.make.new.store) _ _ l.slots c.make.new.slots c.operand_of.result c.operand_of.ensures
    (taken_at op (length c.args.words.now) l.word-index (length c.args.slots.now) (length l.slots) c.operand_of.result c.operand_of.ensures l.auto.slots c.loop-word-test.true c.requires.taken)
    l.auto.slots c.make.ensures.cells c.make.ensures.slots c.make.ensures.trail l.invariant

pub returns-clause-result : goal.returns-clause-result
returns-clause-result c =
    let S = c.args.slots.now in
    let e : c.loop-word.word-index ≡ length c.args.words.now = omega arith in
    subst (λ n. Turns (cells_of c.args.store.now) S (AllTake (length S) (worded c.args.words.now) n) Nothing (Rows (length (cells_of c.args.store.now)) (worded c.args.words.now) n) (cells_of c.loop-word.store) c.loop-word.slots) e
    c.loop-word.invariant.rows
