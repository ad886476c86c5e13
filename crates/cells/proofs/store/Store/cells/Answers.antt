use Rattle.std.proofs.Common.{refl}
use Rattle.cells.proofs.StoreLaws.{store_fine, store_few}
use Rattle.cells.proofs.store.Store.cells.Goals as goal

pub returns : goal.returns
returns c =
    let s = c.args.self.now in
    let fine = store_fine s in
    record { value = refl; sound = fine.sound; closed = fine.closed; few = store_few s }
