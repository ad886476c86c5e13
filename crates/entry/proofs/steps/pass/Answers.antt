use Rattle.std.proofs.Common.{◌≡◌, ◌+◌, length, get_or, refl, subst, arith}
use Rattle.code.specs.declared.instructions.Operand.TheVariants.{Fresh}
use Rattle.cells.specs.Stores.{cells_of, bound_of}
use Rattle.entry.specs.Operands.{put_at}
use Rattle.entry.specs.Loops.{Building}
use Rattle.cells.proofs.StoreLaws.{store_fine}
use Rattle.entry.proofs.StructureLaws.{building_none, building_more, taken_at}
use Rattle.entry.proofs.steps.pass.Goals as goal

pub loop-k-init : goal.loop-k-init
loop-k-init c = building_none _ _ c.args.slots.now (put_at c.args.puts.now) _ (store_fine c.args.store.now) c.requires.inside

pub loop-k-preserved : goal.loop-k-preserved
loop-k-preserved c =
    building_more _ _ c.args.slots.now (put_at c.args.puts.now) c.loop-k.k (cells_of c.loop-k.store) (cells_of c.make.new.store) _ _ c.loop-k.slots c.make.new.slots (get_or c.args.puts.now (1 + c.loop-k.k) (Fresh 0))
    refl
    (taken_at (put_at c.args.puts.now) c.args.n c.loop-k.k (length c.args.slots.now) (length c.loop-k.slots) (get_or c.args.puts.now (1 + c.loop-k.k) (Fresh 0)) refl c.loop-k.auto.slots (omega arith) c.requires.taken)
    c.loop-k.auto.slots c.make.ensures.cells c.make.ensures.slots c.make.ensures.trail c.loop-k.invariant

pub returns : goal.returns
returns c =
    let e : c.loop-k.k ≡ c.args.n = omega arith in
    let b = subst (λ z. Building (cells_of c.args.store.now) (bound_of c.args.store.now) c.args.slots.now (put_at c.args.puts.now) z (cells_of c.loop-k.store) (bound_of c.loop-k.store) c.loop-k.slots) e c.loop-k.invariant in
    record { grew = b.grew; long = b.long; result = b.rows }
