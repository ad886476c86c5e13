-- What symbols and a table of them stand for.
use Rattle.std.specs.Prelude.{ℕ, zero, suc, ◌*◌, List, [], ◌∷◌, ◌++◌, take, drop, slice_index}
use Rattle.symbol_table.specs.Symbols.{Symbol, Signature}
use Rattle.symbol_table.specs.declared.table.Symbol.{Symbol as HeldSymbol}
use Rattle.symbol_table.specs.declared.table.SymbolTable.{SymbolTable}

abbrev pub symbol_of : HeldSymbol → Symbol
symbol_of s = record { name = s.name.items; arity = s.arity }

-- the first n values of f
abbrev pub up_to : {X : Type 0} → ℕ → (ℕ → X) → List X
up_to zero f = []
up_to (suc n) f = up_to n f ++ f n ∷ []

-- each name has 31 bytes of its own, of which the first are used
abbrev pub symbol_in : SymbolTable → ℕ → Symbol
symbol_in t k = record { name = take (slice_index t.lens k) (drop (31 * k) t.bytes); arity = slice_index t.arities k }

abbrev pub signature : SymbolTable → Signature
signature t = up_to t.len (symbol_in t)
