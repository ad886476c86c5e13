use Rattle.std.proofs.Common.{◌≡◌, ◌<◌, [], ◌∷◌, ◌++◌, length, ◌∙◌, subst, arith}
use Rattle.heap.specs.declared.cell.Cell.TheVariants.{Node}
use Rattle.cells.specs.Stores.{cells_of}
use Rattle.cells.proofs.StateLaws.{grown_room}
use Rattle.posing.specs.Queries.{FitOne}
use Rattle.posing.proofs.StartLaws.{builds_constant, builds_variable, builds_goal, builds_structure}
use Rattle.posing.proofs.starting.start_piece.Goals as goal

pub returns-in-Constant : goal.returns-in-Constant
returns-in-Constant c G = builds_constant c.args.table.now _ _ c.args.entries.now.items c.args.piece c.requires.fit G c.in-Constant.c c.in-Constant.is _ c.push.ensures.items

pub returns-in-Variable : goal.returns-in-Variable
returns-in-Variable c G = builds_variable c.args.table.now _ _ c.args.entries.now.items c.args.piece c.requires.fit G c.in-Variable.y c.in-Variable.is _ c.push-in-Variable.ensures.items

pub returns-in-Structure : goal.returns-in-Structure
returns-in-Structure c G =
    let s = c.seat_all-first in
    let H₁ = cells_of s.new.store in
    let node = Node c.in-Structure.f c.in-Structure.n s.result in
    let fit = subst (FitOne c.args.table.now (length c.args.slots.now) (length c.args.entries.now.items)) c.in-Structure.is c.requires.fit in
    let room : length H₁ < 4224 = omega (arith, s.ensures.seated.long, c.requires.room, fit.2) in
    let e : cells_of c.push_node.new.self ≡ H₁ ++ node ∷ [] = c.push_node.ensures.cells ∙ grown_room H₁ node room in
    builds_structure c.args.table.now _ _ c.args.entries.now.items c.args.piece c.requires.fit G c.in-Structure.f c.in-Structure.n H₁ s.new.slots s.auto.slots s.ensures.seated s.result s.ensures.first s.new.entries.items s.ensures.entries
    c.in-Structure.is c.top-place.result c.top-place.ensures.value _ e _ c.push-in-Structure.ensures.items

pub returns-in-Goal : goal.returns-in-Goal
returns-in-Goal c G =
    let s = c.seat_all-first-in-Goal in
    builds_goal c.args.table.now _ _ c.args.entries.now.items c.args.piece c.requires.fit G c.in-Goal.p c.in-Goal.n (cells_of s.new.store) s.new.slots s.auto.slots s.ensures.seated s.result s.ensures.first s.new.entries.items s.ensures.entries c.in-Goal.is
