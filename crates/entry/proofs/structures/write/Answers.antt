use Rattle.std.proofs.Common.{◌≡◌, ◌<◌, [], ◌∷◌, ◌++◌, length, ◌∙◌, arith}
use Rattle.heap.specs.declared.cell.Cell.TheVariants.{Node}
use Rattle.cells.specs.Stores.{cells_of}
use Rattle.cells.proofs.StateLaws.{grown_room}
use Rattle.entry.specs.Operands.{worded}
use Rattle.entry.proofs.StructureLaws.{built_structure}
use Rattle.cells.proofs.GrowthLaws.{grew_trans}
use Rattle.entry.proofs.structures.write.Goals as goal

pub returns-clause-grew : goal.returns-clause-grew
returns-clause-grew c = grew_trans c.build.ensures.grew c.push_node.ensures.grew

pub returns-clause-result : goal.returns-clause-result
returns-clause-result c =
    let H = cells_of c.args.store.now in
    let H₁ = cells_of c.build.new.store in
    let b = c.build.ensures in
    let n = length c.args.words.now in
    let node = Node c.args.symbol n c.top-first.result in
    let room : length H₁ < 4224 = omega (arith, b.long, c.requires.room) in
    let e : cells_of c.push_node.new.self ≡ H₁ ++ node ∷ [] = c.push_node.ensures.cells ∙ grown_room H₁ node room in
    built_structure H _ c.args.slots.now (worded c.args.words.now) c.args.symbol n c.top-place.result c.top-first.result H₁ (cells_of c.push_node.new.self) _ c.build.new.slots
    (record { grew = b.grew; long = b.long; spare = b.spare; inside = b.inside; rows = b.result }) c.top-first.ensures.value c.top-place.ensures.value e
