use Rattle.std.proofs.Common.{◌≡◌, ◌-◌}
use Rattle.code.specs.Tests.{some}
use Rattle.image.specs.Symbols.{same, symbols_of}
use Rattle.image.proofs.symbols.repeats.Given as goal

abbrev pub invariant-loop : goal.invariant-loop
invariant-loop l = some (same l.symbol) (symbols_of (l.count - l.counter) l.left) ≡ some (same l.symbol) (symbols_of l.count l.words)
