use Rattle.heap.proofs.Denotes as laws
use Rattle.heap.proofs.theorems.general.Goals as goal

pub returns : goal.returns
returns c = laws.general
