use Rattle.std.proofs.Common.{refl}
use Rattle.cells.proofs.StateLaws.{fine_empty}
use Rattle.cells.proofs.store.Store.new.Goals as goal

pub invariant_of-result-clause-fine : goal.invariant_of-result-clause-fine
invariant_of-result-clause-fine c = ∣ fine_empty refl c.new.ensures.entries ∣₁
