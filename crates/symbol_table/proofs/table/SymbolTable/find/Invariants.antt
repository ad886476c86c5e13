use Rattle.std.proofs.Common.{◌≤◌}
use Rattle.symbol_table.specs.Numbers.{number_in}
use Rattle.symbol_table.specs.Tables.{signature}
use Rattle.symbol_table.proofs.table.SymbolTable.find.Given as goal

abbrev pub invariant-loop-k : goal.invariant-loop-k
invariant-loop-k l = l.k ≤ number_in (signature l.self) l.name l.arity
