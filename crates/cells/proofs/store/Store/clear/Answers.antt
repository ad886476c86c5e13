use Rattle.std.proofs.Common.{refl}
use Rattle.cells.proofs.StateLaws.{fine_empty}
use Rattle.cells.proofs.store.Store.clear.Goals as goal

pub invariant_of-self-clause-fine : goal.invariant_of-self-clause-fine
invariant_of-self-clause-fine c = ∣ fine_empty refl c.clear.ensures.entries ∣₁
