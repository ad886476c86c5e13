use Rattle.std.proofs.Common.{sym, ap}
use Rattle.symbol_table.specs.Tables.{symbol_in}
use Rattle.symbol_table.proofs.SymbolLaws.{up_to_at, up_to_past}
use Rattle.symbol_table.proofs.table.SymbolTable.arity.Goals as goal

pub returns-then-k-self-clause-value : goal.returns-then-k-self-clause-value
returns-then-k-self-clause-value c = sym (ap (λ s. s.arity) (up_to_at c.args.self.now.len (symbol_in c.args.self.now) c.args.symbol _ c.if-k-self.true))

pub returns-else-k-self-clause-value : goal.returns-else-k-self-clause-value
returns-else-k-self-clause-value c = sym (ap (λ s. s.arity) (up_to_past c.args.self.now.len (symbol_in c.args.self.now) c.args.symbol _ c.if-k-self.false))
