-- What a heap says of a valuation of its cells, and its most general solution.
use Rattle.std.specs.Prelude.{◌≡◌, ℕ, zero, suc, ◌<◌, length, ◌≢◌}
use Rattle.horn.specs.Terms.{Name, Term, Terms, node, nil, cons, eval}
use Rattle.heap.specs.Heaps.{Heap, cell, Sound, Rooted}
use Rattle.heap.specs.declared.cell.Cell.{Cell}
use Rattle.heap.specs.declared.cell.Cell.TheVariants.{Unbound, Ref, Node}

-- the names of the symbols
abbrev pub Naming : Type 0
Naming = ℕ → Name

-- a term for each cell
abbrev pub Valuation : Type 0
Valuation = ℕ → Term ℕ

-- the terms of the n cells from i on
abbrev pub span : Valuation → ℕ → ℕ → Terms ℕ
span ρ i zero = nil
span ρ i (suc n) = cons (ρ i) (span ρ (suc i) n)

-- what a cell, at i, says of a valuation
abbrev pub Says : Naming → Cell → ℕ → Valuation → Type 0
Says names Unbound i ρ = Unit {0}
Says names (Ref k) i ρ = ρ i ≡ ρ k
Says names (Node f n b) i ρ = ρ i ≡ node (names f) (span ρ b n)

-- a solution has what each cell says
abbrev pub Sol : Naming → Heap → Valuation → Type 0
Sol names H ρ = (i : ℕ) → Says names (cell H i) i ρ

-- symbols of one arity that the heap holds have one name only if they are one
abbrev pub Tells : Naming → Heap → Type 0
Tells names H = (i j f g n p q : ℕ) → cell H i ≡ Node f n p → cell H j ≡ Node g n q → names f ≡ names g → f ≡ g

-- r is where the references from i lead
pub record Root (H : Heap) (i r : ℕ) : Type 0 where
  pub within : r < length H
  pub rooted : Rooted (cell H r)
  pub same : (names : Naming) (ρ : Valuation) → Sol names H ρ → ρ i ≡ ρ r

-- in no solution have a and b one term
abbrev pub Apart : Heap → ℕ → ℕ → Type 0
Apart H a b = (names : Naming) (ρ : Valuation) → Tells names H → Sol names H ρ → ρ a ≢ ρ b

-- σ is a solution, and every solution is an instance of it
pub record MostGeneral (names : Naming) (H : Heap) (σ : Valuation) : Type 0 where
  pub solves : Sol names H σ
  pub general : (ρ : Valuation) → Sol names H ρ → (i : ℕ) → ρ i ≡ eval (σ i) ρ

-- a sound heap stands for its most general solution
abbrev pub General : Type 0
General = (names : Naming) (H : Heap) → Sound H → (σ : Valuation) × MostGeneral names H σ
