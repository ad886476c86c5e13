-- What the image check answers: the parts of an image, or its first fault.
use Rattle.std.specs.Prelude.{ℕ, ◌+◌, ◌*◌, Bool, cond, not, ◌&&◌, ◌||◌, List, [], ◌∷◌, map, length, take, drop, Some, None, Ok, Err, Option, Result, ◌==◌, nat_le}
use Rattle.code.specs.Rules.{broken, rule_number}
use Rattle.code.specs.Tests.{chosen}
use Rattle.image.specs.declared.rows.Row.{Row}
use Rattle.image.specs.declared.faults.ImageFault.{ImageFault}
use Rattle.image.specs.declared.faults.ImageFault.TheVariants.{Header, Symbol as BadSymbol, Layout, Row as BadRow, Code}
use Rattle.image.specs.Limits.{symbol_limit, clause_limit, code_limit}
use Rattle.symbol_table.specs.Symbols.{Symbol}
use Rattle.image.specs.Symbols.{symbol_of, symbols_of, after_symbols, symbol_fault, arity}
use Rattle.image.specs.Rows.{rows_of, next, code_of, row_fault}

pub record Parts : Type 0 where
  pub symbols : List Symbol
  pub rows : List Row
  pub code : List ℕ

-- the fault, or else what follows
abbrev pub unless : {X : Type 0} → (X → ImageFault) → Option X → Result Parts ImageFault → Result Parts ImageFault
unless fault (Some x) r = Err (fault x)
unless fault None r = r

-- the first clause, from 1, whose code breaks a rule, with its lowest; of the rows from i on
abbrev pub code_fault : List ℕ → List ℕ → ℕ → List Row → Option ImageFault
code_fault arities code i [] = None
code_fault arities code i (r ∷ rs) =
    chosen (broken arities r.predicate r.key (code_of code r (next (length code) rs))) (λ rule. Some (Code (i + 1) (rule_number rule))) (code_fault arities code (i + 1) rs)

-- as many words as c rows and k code words take, and no code without a clause
abbrev pub fitting : ℕ → ℕ → ℕ → Bool
fitting n c k = n == 3 * c + k && (not (c == 0) || k == 0)

-- the words after the symbols, for c clauses and k code words
abbrev pub laid_out : List (List ℕ) → ℕ → ℕ → List ℕ → Result Parts ImageFault
laid_out symbols c k ws =
    let rows = rows_of (take (3 * c) ws) in
    let code = drop (3 * c) ws in
    cond (fitting (length ws) c k)
    (unless BadRow (row_fault (length symbols) k 0 rows)
    (unless (λ e. e) (code_fault (map arity symbols) code 0 rows)
    (Ok (record { symbols = map symbol_of symbols; rows = rows; code = code }))))
    (Err Layout)

-- the words after the header
abbrev pub body : ℕ → ℕ → ℕ → List ℕ → Result Parts ImageFault
body s c k ws = unless BadSymbol (symbol_fault [] (symbols_of s ws)) (laid_out (symbols_of s ws) c k (after_symbols s ws))

-- the format is 1, and no count is above its limit
abbrev pub is_header : ℕ → ℕ → ℕ → ℕ → Bool
is_header f s c k = f == 1 && (nat_le s symbol_limit && (nat_le c clause_limit && nat_le k code_limit))

abbrev pub checked : List ℕ → Result Parts ImageFault
checked [] = Err Header
checked (f ∷ []) = Err Header
checked (f ∷ s ∷ []) = Err Header
checked (f ∷ s ∷ c ∷ []) = Err Header
checked (f ∷ s ∷ c ∷ k ∷ ws) = cond (is_header f s c k) (body s c k ws) (Err Header)
