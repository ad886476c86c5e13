use Rattle.std.proofs.Common.{sym, ap, ◌∙◌, arith}
use Rattle.symbol_table.specs.Numbers.{is_symbol}
use Rattle.symbol_table.specs.Tables.{symbol_in, signature}
use Rattle.symbol_table.proofs.SymbolLaws.{signature_long, up_to_at}
use Rattle.symbol_table.proofs.NameLaws.{number_past, number_here, number_none}
use Rattle.symbol_table.proofs.table.SymbolTable.find.Goals as goal

pub returns-then-is_at : goal.returns-then-is_at
returns-then-is_at c =
    sym (number_here (signature c.args.self.now) c.args.name.now c.args.arity c.loop-k.k c.loop-k.invariant (omega (arith, signature_long c.args.self.now, c.loop-k-test.true))
    (ap (λ s. is_symbol s c.args.name.now c.args.arity) (up_to_at c.args.self.now.len (symbol_in c.args.self.now) c.loop-k.k _ c.loop-k-test.true) ∙ sym c.is_at.ensures ∙ c.if-is_at.true))

pub loop-k-preserved : goal.loop-k-preserved
loop-k-preserved c =
    number_past (signature c.args.self.now) c.args.name.now c.args.arity c.loop-k.k c.loop-k.invariant (omega (arith, signature_long c.args.self.now, c.loop-k-test.true))
    (ap (λ s. is_symbol s c.args.name.now c.args.arity) (up_to_at c.args.self.now.len (symbol_in c.args.self.now) c.loop-k.k _ c.loop-k-test.true) ∙ sym c.is_at.ensures ∙ c.if-is_at.false)

pub returns : goal.returns
returns c = sym (number_none (signature c.args.self.now) c.args.name.now c.args.arity (omega (arith, signature_long c.args.self.now, c.loop-k.invariant)))
