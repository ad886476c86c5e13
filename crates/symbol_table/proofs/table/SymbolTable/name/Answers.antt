use Rattle.std.proofs.Common.{◌≡◌, ◌+◌, ◌-◌, ◌*◌, get_or, take, drop, sym, ap, ◌∙◌, arith}
use Rattle.symbol_table.specs.Tables.{symbol_in}
use Rattle.symbol_table.proofs.SymbolLaws.{up_to_at, up_to_past}
use Rattle.symbol_table.proofs.table.SymbolTable.name.Goals as goal

pub returns-then-k-self : goal.returns-then-k-self
returns-then-k-self c = sym (ap (λ s. s.name) (up_to_past c.args.self.now.len (symbol_in c.args.self.now) c.args.symbol _ c.if-k-self.true))

pub returns : goal.returns
returns c =
    let z : 31 * c.args.symbol + get_or c.args.self.now.lens c.args.symbol 0 - 31 * c.args.symbol ≡ get_or c.args.self.now.lens c.args.symbol 0 = omega arith in
    ap (λ k. take k (drop (31 * c.args.symbol) c.args.self.now.bytes)) z
    ∙ sym (ap (λ s. s.name) (up_to_at c.args.self.now.len (symbol_in c.args.self.now) c.args.symbol _ (omega (arith, c.if-k-self.false))))
