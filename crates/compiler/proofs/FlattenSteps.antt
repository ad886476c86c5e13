-- A line's words flattened one after another.
use Rattle.std.proofs.Common.{◌≡◌, ℕ, List, [], ◌++◌}
use Rattle.horn.specs.Clauses.{Variable}
use Rattle.horn.specs.Notation.{Word}
use Rattle.symbol_table.specs.Symbols.{Signature}
use Rattle.symbol_table.specs.Numbers.{Covers, Shorts, names_of, variables_after}
use Rattle.compiler.specs.Flatten.{items, predicates}
use Rattle.compiler.specs.declared.items.Item.{Item}

-- what has been found, and what is left
pub record Flattening (sig : Signature) (all : List Word) (names : Signature) (need : ℕ) (left : List Word) (preds : List ℕ) (its : List Item) : Type 0 where
  pub V : List Variable
  pub named : names ≡ names_of V
  pub goals : preds ++ predicates sig need left ≡ predicates sig 0 all
  pub args : its ++ items sig V need left ≡ items sig [] 0 all
  pub after : variables_after V need left ≡ variables_after [] 0 all
  pub covered : Covers sig left
  pub short : Shorts left
