use Rattle.std.proofs.Common.{◌≤◌, length, ◌∙◌, arith}
use Rattle.std.proofs.lemmas.Grind.{common_steps}
use Rattle.cells.specs.Stores.{cells_of}
use Rattle.cells.proofs.GrowthLaws.{grew_trans}
use Rattle.cells.proofs.StoreLaws.{store_fine}
use Rattle.cells.proofs.StructureLaws.{refs_spare}
use Rattle.cells.proofs.store.Store.push_structure.Goals as goal

pub push_node-requires-clause-spare : goal.push_node-requires-clause-spare
push_node-requires-clause-spare c =
    let s = c.args.self.now in
    let part : c.loop-x.x-index ≤ length c.args.args.now = omega arith in
    let spare = refs_spare (cells_of s) (cells_of c.loop-x.self) c.args.args.now c.loop-x.x-index c.loop-x.invariant.cells part _ (store_fine s) in
    omega (arith, spare, c.loop-x-test.false)

pub returns-clause-grew : goal.returns-clause-grew
returns-clause-grew c = grew_trans c.loop-x.invariant.grew c.push_node.ensures.grew

pub loop-x-preserved : goal.loop-x-preserved
loop-x-preserved c = record {
  cells = grind (arith, common_steps);
  trail = c.push_ref.ensures.trail ∙ c.loop-x.invariant.trail;
  grew = grew_trans c.loop-x.invariant.grew c.push_ref.ensures.grew;
}
