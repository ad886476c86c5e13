-- The program that an image's parts are.
use Rattle.std.specs.Prelude.{◌≡◌, ℕ, ◌<◌, List, [], ◌∷◌, map, length, slice_index}
use Rattle.horn.specs.Instances.{Rule}
use Rattle.code.specs.Words.{decode}
use Rattle.code.specs.Meaning.{Symbols, code_rule}
use Rattle.image.specs.declared.rows.Row.{Row}
use Rattle.symbol_table.specs.Symbols.{Symbol, symbol_at}
use Rattle.image.specs.Rows.{next, code_of}
use Rattle.image.specs.Checked.{Parts}
use Rattle.image.specs.Images.{arities}

-- what the numbers of symbols stand for
abbrev pub symbols_in : Parts → Symbols
symbols_in p = record { name = λ i. (symbol_at p.symbols i).name; arity = λ i. slice_index (arities p) i }

-- no two numbers stand for one symbol
abbrev pub Distinct : List Symbol → Type 0
Distinct ss = (i j : ℕ) → i < length ss → j < length ss → symbol_at ss i ≡ symbol_at ss j → i ≡ j

-- a rule for each clause
abbrev pub rules_of : Parts → List Row → List Rule
rules_of p [] = []
rules_of p (r ∷ rs) = code_rule (symbols_in p) r.predicate (map decode (code_of p.code r (next (length p.code) rs))) ∷ rules_of p rs

abbrev pub program : Parts → List Rule
program p = rules_of p p.rows
