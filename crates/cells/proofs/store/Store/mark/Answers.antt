use Rattle.std.proofs.Common.{length, sym, subst}
use Rattle.cells.specs.Growth.{Saves}
use Rattle.cells.specs.Stores.{cells_of, bound_of}
use Rattle.cells.proofs.GrowthLaws.{saves_now}
use Rattle.cells.proofs.StoreLaws.{store_fine}
use Rattle.cells.proofs.store.Store.mark.Goals as goal

pub returns-clause-saves : goal.returns-clause-saves
returns-clause-saves c =
    let s = c.args.self.now in
    subst (λ n. Saves (cells_of s) (bound_of s) n (length (cells_of s))) (sym c.len.ensures.value) (saves_now (cells_of s) (bound_of s) (store_fine s))
