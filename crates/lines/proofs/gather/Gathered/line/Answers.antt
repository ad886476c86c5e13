use Rattle.std.proofs.Common.{arith, rules}
use Rattle.lines.proofs.GatherLaws.{enough_read}
use Rattle.lines.proofs.gather.Gathered.line.Goals as goal

pub returns : goal.returns
returns c = record { value = search rules; enough = enough_read 513 (omega arith) }
