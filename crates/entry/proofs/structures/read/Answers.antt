use Rattle.std.proofs.Common.{◌≡◌, length, subst, arith}
use Rattle.cells.specs.Stores.{cells_of}
use Rattle.cells.proofs.GrowthLaws.{grew_trans}
use Rattle.entering.specs.Turns.{Turns, AllTake, Rows}
use Rattle.entry.specs.Operands.{worded}
use Rattle.matching.proofs.JoinLaws.{refused}
use Rattle.entry.proofs.StructureLaws.{reading_none, reading_more, reading_fails}
use Rattle.entry.proofs.structures.read.Goals as goal

pub loop-k-init : goal.loop-k-init
loop-k-init c = reading_none _ _ c.args.slots.now (worded c.args.words.now) c.args.first c.requires.inside

pub returns-in_err-get-clause-grew : goal.returns-in_err-get-clause-grew
returns-in_err-get-clause-grew c = grew_trans c.loop-k.invariant.grew c.get.ensures.grew

pub returns-in_err-get-clause-result : goal.returns-in_err-get-clause-result
returns-in_err-get-clause-result c =
    refused _ _ c.from_residual.result c.from_residual.ensures.0
    (reading_fails _ _ c.args.slots.now (worded c.args.words.now) c.args.first c.loop-k.k (c.requires.cells c.loop-k.k (omega arith)) _ _ c.loop-k.slots c.operand_of.result c.operand_of.ensures c.loop-k.auto.slots c.loop-k.invariant
    (length c.args.words.now) (omega arith) c.in_err-get.ensures.result)

pub loop-k-preserved : goal.loop-k-preserved
loop-k-preserved c =
    reading_more _ _ c.args.slots.now (worded c.args.words.now) c.args.first c.loop-k.k (c.requires.cells c.loop-k.k (omega arith)) _ _ c.loop-k.slots c.operand_of.result c.operand_of.ensures c.loop-k.auto.slots c.loop-k.invariant
    _ _ c.get.new.slots c.get.ensures.grew c.get.ensures.long c.get.ensures.inside c.in_ok-get.ensures.result

pub returns-clause-result : goal.returns-clause-result
returns-clause-result c =
    let S = c.args.slots.now in
    let e : c.loop-k.k ≡ length c.args.words.now = omega arith in
    let op = worded c.args.words.now in
    subst (λ n. Turns (cells_of c.args.store.now) S (AllTake (length S) op n) (Rows c.args.first op n) (Rows c.args.first op n) (cells_of c.loop-k.store) c.loop-k.slots) e c.loop-k.invariant.rows
