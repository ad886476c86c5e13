use Rattle.std.proofs.Common.{arith}
use Rattle.symbol_table.proofs.NameLaws.{zeros}
use Rattle.symbol_table.proofs.table.SymbolTable.new.Goals as goal

pub invariant_of-result : goal.invariant_of-result
invariant_of-result c = record { few = omega arith; short = (λ k. zeros 256 31 k); small = (λ k. zeros 256 8 k) }
