-- The query's variables in the heap, and when the heap holds an answer to the query.
use Rattle.std.specs.Prelude.{◌≡◌, ℕ, ◌+◌, ◌<◌, ◌≤◌, List, map, length, take, drop}
use Rattle.std.specs.List.{AllByRecursion}
use Rattle.horn.specs.Terms.{Name}
use Rattle.horn.specs.Clauses.{named, Query}
use Rattle.horn.specs.Answers.{Values, names_of}
use Rattle.heap.specs.declared.cell.Cell.TheVariants.{Node}
use Rattle.heap.specs.Heaps.{Heap, cell}
use Rattle.heap.specs.Solutions.{Naming, Valuation, MostGeneral}
use Rattle.answers.specs.declared.variable.Variable.{Variable}

-- the variable's name, a part of the query's line
abbrev pub name_of : List ℕ → Variable → Name
name_of line v = take v.len (drop v.start line)

-- the name is within the line, and the cell within the heap
abbrev pub Inside : List ℕ → Heap → Variable → Type 0
Inside line H v = (v.start + v.len ≤ length line) × (v.cell < length H)

abbrev pub InsideAll : List ℕ → Heap → List Variable → Type 0
InsideAll line H vs = AllByRecursion (Inside line H) vs

-- every arity is one digit
abbrev pub Digits : Heap → Type 0
Digits H = (i f n b : ℕ) → cell H i ≡ Node f n b → n < 10

-- the variables are those of q, and θ gives each the term that its cell has in a most general solution of the heap
pub record Shows (names : Naming) (H : Heap) (line : List ℕ) (vs : List Variable) (q : Query) (θ : Values) : Type 0 where
  pub σ : Valuation
  pub general : MostGeneral names H σ
  pub called : map (name_of line) vs ≡ names_of q
  pub valued : AllByRecursion (λ v. θ (named (name_of line v)) ≡ σ v.cell) vs
