use Rattle.std.proofs.Common.{◌≡◌, ◌-◌, take, reverse, ap, ◌∙◌, subst, arith}
use Rattle.cells.specs.Stores.{cells_of}
use Rattle.posing.specs.Stacks.{entry_at, Seating}
use Rattle.cells.proofs.StoreLaws.{store_fine}
use Rattle.posing.proofs.PoseLaws.{seating_none, seating_more, seating_sits}
use Rattle.posing.proofs.StartLaws.{from_end, left_below}
use Rattle.posing.proofs.entries.seat_all.Goals as goal

pub loop-k-init : goal.loop-k-init
loop-k-init c = seating_none c.args.table.now _ c.args.slots.now (entry_at (reverse c.args.entries.now.items)) _ (store_fine c.args.store.now) c.requires.stands

pub seat-requires-clause-sits : goal.seat-requires-clause-sits
seat-requires-clause-sits c =
    let items = c.args.entries.now.items in
    let e = from_end items c.deref.result.now c.len-count.result c.loop-k.k c.deref.ensures.0 c.len-count.ensures.value (omega (arith, c.requires.enough)) in
    seating_sits c.args.table.now _ c.args.slots.now (entry_at (reverse items)) c.loop-k.k _ c.loop-k.slots _ e c.loop-k.auto.slots (c.requires.sits c.loop-k.k c.loop-k-test.true) c.loop-k.invariant

pub loop-k-preserved : goal.loop-k-preserved
loop-k-preserved c =
    let items = c.args.entries.now.items in
    let e = from_end items c.deref.result.now c.len-count.result c.loop-k.k c.deref.ensures.0 c.len-count.ensures.value (omega (arith, c.requires.enough)) in
    seating_more c.args.table.now _ c.args.slots.now (entry_at (reverse items)) c.loop-k.k _ (cells_of c.seat.new.store) c.loop-k.slots c.seat.new.slots _ e c.loop-k.auto.slots
    (c.requires.sits c.loop-k.k c.loop-k-test.true) c.seat.ensures.cells c.seat.ensures.slots c.loop-k.invariant

pub returns-clause-entries : goal.returns-clause-entries
returns-clause-entries c = ap reverse c.truncate.ensures.items ∙ ap (λ m. reverse (take (m - c.args.n) c.args.entries.now.items)) c.len-count.ensures.value ∙ left_below c.args.entries.now.items c.args.n c.requires.enough

pub returns-clause-seated : goal.returns-clause-seated
returns-clause-seated c =
    let e : c.loop-k.k ≡ c.args.n = omega arith in
    subst (λ n. Seating c.args.table.now (cells_of c.args.store.now) c.args.slots.now (entry_at (reverse c.args.entries.now.items)) n (cells_of c.loop-k.store) c.loop-k.slots) e c.loop-k.invariant
