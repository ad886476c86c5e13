use Rattle.posing.proofs.StoredLaws.{start_stores}
use Rattle.posing.proofs.theorems.started_query_is_stored.Goals as goal

pub returns : goal.returns
returns c = start_stores
