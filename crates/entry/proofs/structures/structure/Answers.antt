use Rattle.std.proofs.Common.{length, is_ok, sym, ◌∙◌, arith}
use Rattle.heap.proofs.HeapLaws.{node_within}
use Rattle.cells.specs.Stores.{cells_of}
use Rattle.cells.proofs.GrowthLaws.{grew_trans}
use Rattle.entry.specs.Operands.{worded}
use Rattle.cells.proofs.StoreLaws.{store_fine}
use Rattle.entry.proofs.StructureLaws.{told_clash, told_read, told_write}
use Rattle.entry.proofs.structures.structure.Goals as goal
use Rattle.entry.proofs.structures.structure.Goals.{then-f-symbol-via-then-f-symbol, then-f-symbol-via-else-f-symbol+then-arity-words}

pub returns-then-f-symbol-clause-result : goal.returns-then-f-symbol-clause-result
returns-then-f-symbol-clause-result c =
    told_clash (cells_of c.args.store.now) c.args.slots.now (worded c.args.words.now) c.args.symbol (length c.args.words.now) c.args.y c.in-Some.i c.root.result c.in-Node.f c.in-Node.arity c.in-Node.first
    c.in-Some.is c.root.ensures (sym c.get.ensures ∙ c.in-Node.is)
    (elim c.then-f-symbol.branch [ then-f-symbol-via-then-f-symbol w ↦ λ e _. w.if-f-symbol.true e | then-f-symbol-via-else-f-symbol+then-arity-words w ↦ λ _ e. w.if-arity-words.true e ])

pub read-requires-clause-cells : goal.read-requires-clause-cells
read-requires-clause-cells c j l =
    omega (arith, node_within (cells_of c.args.store.now) (store_fine c.args.store.now).closed c.root.result c.in-Node.f c.in-Node.arity c.in-Node.first (sym c.get.ensures ∙ c.in-Node.is) (omega arith))

pub returns-in-Node-clause-result : goal.returns-in-Node-clause-result
returns-in-Node-clause-result c =
    told_read (cells_of c.args.store.now) c.args.slots.now (worded c.args.words.now) c.args.symbol (length c.args.words.now) c.args.y c.in-Some.i c.root.result c.in-Node.f c.in-Node.arity c.in-Node.first
    c.in-Some.is c.root.ensures (sym c.get.ensures ∙ c.in-Node.is) c.if-f-symbol.false c.if-arity-words.false _ c.read.new.slots (is_ok c.read.result) c.read.ensures.result

pub returns-clause-grew : goal.returns-clause-grew
returns-clause-grew c = grew_trans c.write-place.ensures.grew c.get_slot.ensures.grew

pub returns-clause-result : goal.returns-clause-result
returns-clause-result c =
    told_write _ _ _ c.args.slots.now c.write-place.new.slots c.get_slot.new.slots (worded c.args.words.now) c.args.symbol (length c.args.words.now) c.args.y c.write-place.result (is_ok c.get_slot.result) c.write-place.ensures.result c.get_slot.ensures.result
