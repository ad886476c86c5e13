-- Words whose symbols can be noted, and tables that begin alike.
use Rattle.std.specs.Prelude.{◌≡◌, ◌≤◌, List, [], ◌∷◌, ◌++◌, length}
use Rattle.horn.specs.Notation.{Word, name, structure, variable}
use Rattle.symbol_table.specs.Symbols.{Signature}

-- a name of at most 31 bytes, and an arity of at most 8
abbrev pub Fine : Word → Type 0
Fine (name f) = length f ≤ 31
Fine (structure f n) = (length f ≤ 31) × (n ≤ 8)
Fine (variable v) = Unit {0}

abbrev pub Fines : List Word → Type 0
Fines [] = Unit {0}
Fines (w ∷ ws) = Fine w × Fines ws

-- one is the beginning of the other
pub record Begins (a b : Signature) : Type 0 where
  pub more : Signature
  pub is : b ≡ a ++ more
