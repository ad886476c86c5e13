use Rattle.std.proofs.Common.{◌+◌, ◌-◌, false, sym, ap, ◌∙◌, arith}
use Rattle.code.specs.Tests.{some}
use Rattle.image.specs.Symbols.{same, symbols_of}
use Rattle.image.proofs.SymbolLaws.{some_turn, same_words}
use Rattle.image.proofs.symbols.repeats.Goals as goal

pub loop-preserved : goal.loop-preserved
loop-preserved c =
    let x = c.args.symbol.now in
    ap (λ l. some (same x) (symbols_of (c.args.count - (c.loop.counter + 1)) l)) c.split_symbol.ensures.rest
    ∙ sym (some_turn c.loop.left.now c.args.count c.loop.counter (omega arith) x c.split_symbol.result.0.now c.split_symbol.ensures.symbol false (c.if-eq.ensures ∙ same_words x c.split_symbol.result.0.now))
    ∙ c.loop.invariant
