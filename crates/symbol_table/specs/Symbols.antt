-- Symbols by their numbers.
use Rattle.std.specs.Prelude.{ℕ, List, [], map, slice_index_or}
use Rattle.horn.specs.Terms.{Name}
use Rattle.code.specs.Meaning.{Symbols}

-- a name with its arity
pub record Symbol : Type 0 where
  pub name : Name
  pub arity : ℕ

-- the symbols numbered from 0 on
abbrev pub Signature : Type 0
Signature = List Symbol

abbrev pub symbol_at : Signature → ℕ → Symbol
symbol_at sig k = slice_index_or sig k (record { name = []; arity = 0 })

abbrev pub name_at : Signature → ℕ → Name
name_at sig k = (symbol_at sig k).name

abbrev pub arity_at : Signature → ℕ → ℕ
arity_at sig k = (symbol_at sig k).arity

-- what their numbers stand for
abbrev pub symbols_of : Signature → Symbols
symbols_of sig = record { name = name_at sig; arity = arity_at sig }

abbrev pub arities_of : Signature → List ℕ
arities_of sig = map (λ s. s.arity) sig
