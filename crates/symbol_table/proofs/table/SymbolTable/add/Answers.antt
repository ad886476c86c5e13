use Rattle.std.proofs.Common.{rules}
use Rattle.symbol_table.proofs.NameLaws.{symbol_more}
use Rattle.symbol_table.proofs.table.SymbolTable.add.Goals as goal

pub returns : goal.returns
returns c =
    symbol_more c.args.self.now.bytes c.write_name.new.out c.args.self.now.lens c.args.self.now.arities c.args.self.now.len c.args.name.now c.args.arity
    (search rules) (search rules) c.write_name.ensures.same c.write_name.ensures.name c.args.self.now.short
