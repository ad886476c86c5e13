-- Images by their parts: which parts an image may have, how they are laid out, and what they give.
use Rattle.std.specs.Prelude.{◌≡◌, ℕ, zero, suc, ◌≤◌, true, List, [], ◌∷◌, ◌++◌, map, length, None, Ok, Result, ◌≢◌}
use Rattle.std.specs.List.{flat_map}
use Rattle.lines.specs.Limits.{arity_limit}
use Rattle.lines.specs.Words.{is_name}
use Rattle.code.specs.WellFormed.{Runnable}
use Rattle.image.specs.declared.rows.Row.{Row}
use Rattle.image.specs.declared.faults.ImageFault.{ImageFault}
use Rattle.image.specs.Limits.{symbol_limit, clause_limit, code_limit}
use Rattle.symbol_table.specs.Symbols.{Symbol}
use Rattle.image.specs.Symbols.{symbol_words}
use Rattle.image.specs.Rows.{row_words, next, code_of, row_fault}
use Rattle.image.specs.Checked.{Parts, code_fault}

-- a name of the form that lines have, and an arity
abbrev pub Good : Symbol → Type 0
Good s = (is_name s.name ≡ true) × (s.arity ≤ arity_limit)

abbrev pub Goods : List Symbol → Type 0
Goods [] = Unit {0}
Goods (s ∷ ss) = Good s × Goods ss

abbrev pub Absent : Symbol → List Symbol → Type 0
Absent s [] = Unit {0}
Absent s (t ∷ ts) = (s ≢ t) × Absent s ts

-- each symbol is none of those before it
abbrev pub Apart : List Symbol → List Symbol → Type 0
Apart earlier [] = Unit {0}
Apart earlier (s ∷ ss) = Absent s earlier × Apart (earlier ++ s ∷ []) ss

abbrev pub arities : Parts → List ℕ
arities p = map (λ s. s.arity) p.symbols

-- the parts that an image may have
pub record Proper (p : Parts) : Type 0 where
  pub few_symbols : length p.symbols ≤ symbol_limit
  pub few_clauses : length p.rows ≤ clause_limit
  pub few_words : length p.code ≤ code_limit
  pub good : Goods p.symbols
  pub apart : Apart [] p.symbols
  pub no_code : length p.rows ≡ 0 → length p.code ≡ 0
  pub rows_sound : row_fault (length p.symbols) (length p.code) 0 p.rows ≡ None
  pub code_sound : code_fault (arities p) p.code 0 p.rows ≡ None

-- their words: the header, the symbols, the rows and the code
abbrev pub laid : Parts → List ℕ
laid p = 1 ∷ length p.symbols ∷ length p.rows ∷ length p.code ∷ (flat_map symbol_words p.symbols ++ (flat_map row_words p.rows ++ p.code))

-- the words are an image of these parts
pub record ImageOf (words : List ℕ) (p : Parts) : Type 0 where
  pub proper : Proper p
  pub layout : laid p ≡ words

-- r has the parts of which the words are an image, or a fault where they are none
abbrev pub OneImage : List ℕ → Result Parts ImageFault → Type 0
OneImage words r = (p : Parts) → (r ≡ Ok p → ImageOf words p) × (ImageOf words p → r ≡ Ok p)

-- the code of clause j, from 0, keeps the rules and can be run
abbrev pub ClauseRunnable : List ℕ → List ℕ → List Row → ℕ → Type 0
ClauseRunnable ar code [] j = Unit {0}
ClauseRunnable ar code (r ∷ rs) zero = Runnable ar r.predicate r.key (code_of code r (next (length code) rs))
ClauseRunnable ar code (r ∷ rs) (suc j) = ClauseRunnable ar code rs j

abbrev pub ClausesRunnable : Parts → Type 0
ClausesRunnable p = (j : ℕ) → ClauseRunnable (arities p) p.code p.rows j
