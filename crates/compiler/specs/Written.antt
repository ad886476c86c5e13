-- A clause's code as it has been written.
use Rattle.std.specs.Prelude.{◌≡◌, ℕ, ◌+◌, List, map, length}
use Rattle.code.specs.Words.{decode}
use Rattle.code.specs.Rules.{key_of}
use Rattle.code.specs.WellFormed.{Kept}
use Rattle.symbol_table.specs.Symbols.{Signature, arities_of}
use Rattle.compiler.specs.Reading.{weight, Carries}
use Rattle.compiler.specs.declared.items.Item.{Item}

-- the code of the clause with the head p and the goals ps, whose arguments the items spell in turn
pub record Wrote (sig : Signature) (p : ℕ) (ps : List ℕ) (items : List Item) (code : List ℕ) : Type 0 where
  pub size : length code ≡ weight ps items + 2
  pub carries : Carries sig p ps items (map decode code)
  pub kept : Kept (arities_of sig) p (key_of (map decode code)) code
