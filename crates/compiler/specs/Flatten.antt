-- The items of a clause's words: symbols and variables by their numbers, and heads and goals apart from their arguments.
use Rattle.std.specs.Prelude.{ℕ, zero, suc, ◌+◌, List, [], ◌∷◌}
use Rattle.horn.specs.Clauses.{Variable}
use Rattle.horn.specs.Notation.{Word, name, structure, variable, arity}
use Rattle.symbol_table.specs.Symbols.{Signature}
use Rattle.symbol_table.specs.Numbers.{number_in, number_of, noted_by}
use Rattle.compiler.specs.declared.items.Item.{Item}
use Rattle.compiler.specs.declared.items.Item.TheVariants.{Atom, Structure, Variable as Numbered}

abbrev pub item_for : Signature → List Variable → Word → Item
item_for sig V (name f) = Atom (number_in sig f 0)
item_for sig V (structure f n) = Structure (number_in sig f n)
item_for sig V (variable v) = Numbered (number_of V v)

abbrev pub predicate_for : Signature → Word → ℕ
predicate_for sig (name f) = number_in sig f 0
predicate_for sig (structure f n) = number_in sig f n
predicate_for sig (variable v) = 0

-- the items of the words, where n arguments are awaited and then a head or goal
abbrev pub items : Signature → List Variable → ℕ → List Word → List Item
items sig V n [] = []
items sig V zero (w ∷ ws) = items sig V (arity w) ws
items sig V (suc n) (w ∷ ws) = item_for sig V w ∷ items sig (noted_by V w) (arity w + n) ws

-- the predicates of heads and goals
abbrev pub predicates : Signature → ℕ → List Word → List ℕ
predicates sig n [] = []
predicates sig zero (w ∷ ws) = predicate_for sig w ∷ predicates sig (arity w) ws
predicates sig (suc n) (w ∷ ws) = predicates sig (arity w + n) ws
