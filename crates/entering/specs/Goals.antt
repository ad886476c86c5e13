-- Goals, and the symbols that they and the cells have.
use Rattle.std.specs.Prelude.{◌≡◌, ℕ, ◌+◌, ◌<◌, List, [], ◌∷◌, length, slice_index, slice_index_or}
use Rattle.horn.specs.Terms.{Term, Terms, node, nil, cons}
use Rattle.heap.specs.Heaps.{Heap, cell}
use Rattle.heap.specs.Solutions.{Valuation, span}
use Rattle.heap.specs.declared.cell.Cell.TheVariants.{Node}
use Rattle.code.specs.Meaning.{Symbols}
use Rattle.entering.specs.declared.goal.Goal.{Goal}

-- the term of a goal, where ρ has the terms of the cells
abbrev pub worth : Symbols → Valuation → Goal → Term ℕ
worth s ρ g = node (s.name g.symbol) (span ρ g.first g.arity)

abbrev pub vals : Symbols → Valuation → List Goal → Terms ℕ
vals s ρ [] = nil
vals s ρ (g ∷ G) = cons (worth s ρ g) (vals s ρ G)

-- names that tell the symbols of a table apart, which has the arity of each
pub record Names (s : Symbols) (table : List ℕ) : Type 0 where
  pub arity : (f : ℕ) → s.arity f ≡ slice_index table f
  pub apart : (f g : ℕ) → f < length table → g < length table → slice_index table f ≡ slice_index table g → s.name f ≡ s.name g → f ≡ g

-- each structure has a symbol of the table, and as many arguments as this says
abbrev pub Typed : List ℕ → Heap → Type 0
Typed table H = (i f n b : ℕ) → cell H i ≡ Node f n b → (f < length table) × (slice_index table f ≡ n)

-- so has a goal, and its arguments are among the first n cells
pub record Good (table : List ℕ) (n : ℕ) (g : Goal) : Type 0 where
  pub known : g.symbol < length table
  pub size : slice_index_or table g.symbol 0 ≡ g.arity
  pub held : (k : ℕ) → k < g.arity → g.first + k < n
