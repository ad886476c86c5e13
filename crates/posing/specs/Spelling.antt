-- The words of a query's terms, where each symbol and each variable has a number.
use Rattle.std.specs.Prelude.{◌≡◌, ℕ, ◌<◌, ◌≤◌, List, [], ◌∷◌, length, slice_index, slice_index_or}
use Rattle.horn.specs.Terms.{Name, Term, Terms, var, node, nil, cons, count}
use Rattle.horn.specs.Clauses.{Variable, blank, Query, Callables}
use Rattle.horn.specs.Weights.{query_weight}
use Rattle.code.specs.Meaning.{Symbols}
use Rattle.posing.specs.declared.pieces.Piece.{Piece}
use Rattle.posing.specs.declared.pieces.Piece.TheVariants.{Constant, Variable as Slot, Structure, Goal}
use Rattle.posing.specs.Queries.{Fit, waits, weighs}
use Rattle.posing.specs.Stored.{Spells}

-- the number of each symbol, and of each variable
pub record Numbers : Type 0 where
  pub symbol : Name → ℕ → ℕ
  pub slot : Variable → ℕ

-- the word of a term with these arguments
abbrev pub headed : Numbers → Name → Terms Variable → Piece
headed n f nil = Constant (n.symbol f 0)
headed n f (cons t ts) = Structure (n.symbol f (count (cons t ts))) (count (cons t ts))

-- the words of terms, before others
abbrev mutual
  pub pieces : Numbers → Term Variable → List Piece → List Piece
  pieces n (var v) ps = Slot (n.slot v) ∷ ps
  pieces n (node f ts) ps = headed n f ts ∷ piecess n ts ps

  pub piecess : Numbers → Terms Variable → List Piece → List Piece
  piecess n nil ps = ps
  piecess n (cons t ts) ps = pieces n t (piecess n ts ps)

-- the words of a query
abbrev pub goal_pieces : Numbers → Term Variable → List Piece → List Piece
goal_pieces n (var v) ps = ps
goal_pieces n (node f ts) ps = Goal (n.symbol f (count ts)) (count ts) ∷ piecess n ts ps

abbrev pub query_pieces : Numbers → Query → List Piece
query_pieces n nil = []
query_pieces n (cons t ts) = goal_pieces n t (query_pieces n ts)

-- the numbers of the symbols and variables of a query are right: vs has its variables
abbrev mutual
  pub Right : Symbols → List ℕ → List Variable → Numbers → Term Variable → Type 0
  Right s table vs n (var v) = (n.slot v < length vs) × (slice_index_or vs (n.slot v) (blank 0) ≡ v)
  Right s table vs n (node f ts) =
      (s.name (n.symbol f (count ts)) ≡ f) × (n.symbol f (count ts) < length table) × (slice_index table (n.symbol f (count ts)) ≡ count ts) × Rights s table vs n ts

  pub Rights : Symbols → List ℕ → List Variable → Numbers → Terms Variable → Type 0
  Rights s table vs n nil = Unit {0}
  Rights s table vs n (cons t ts) = Right s table vs n t × Rights s table vs n ts

-- each variable has its own number
abbrev pub OwnNumbers : List Variable → Numbers → Type 0
OwnNumbers vs n = (y : ℕ) → y < length vs → n.slot (slice_index_or vs y (blank 0)) ≡ y

-- such words fit, weigh no more than the query, and are it
pub record Spelled (s : Symbols) (table : List ℕ) (vs : List Variable) (n : Numbers) (q : Query) : Type 0 where
  pub fit : Fit table (length vs) (query_pieces n q)
  pub whole : waits (query_pieces n q) ≡ 0
  pub light : weighs (query_pieces n q) ≤ query_weight q
  pub spells : Spells s (query_pieces n q) q vs

abbrev pub QuerySpelled : Type 0
QuerySpelled =
    (s : Symbols) (table : List ℕ) (vs : List Variable) (n : Numbers) (q : Query) → Callables q → Rights s table vs n q → OwnNumbers vs n → Spelled s table vs n q
