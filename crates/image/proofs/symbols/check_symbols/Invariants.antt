use Rattle.std.proofs.Common.{◌≡◌, ◌-◌, [], map}
use Rattle.image.specs.Symbols.{symbol_fault, symbols_of, after_symbols, arity}
use Rattle.image.proofs.symbols.check_symbols.Given as goal

abbrev pub invariant-loop-place : goal.invariant-loop-place
invariant-loop-place l = record {
  fault : symbol_fault (symbols_of l.place l.words) (symbols_of (l.count - l.place) l.left) ≡ symbol_fault [] (symbols_of l.count l.words);
  rest : l.left ≡ after_symbols l.place l.words;
  arities : l.arities.items ≡ map arity (symbols_of l.place l.words);
}
