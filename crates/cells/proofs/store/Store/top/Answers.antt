use Rattle.std.proofs.Common.{sym}
use Rattle.cells.proofs.StoreLaws.{store_top}
use Rattle.cells.proofs.store.Store.top.Goals as goal

pub returns-clause-value : goal.returns-clause-value
returns-clause-value c = sym (store_top c.args.self.now)
