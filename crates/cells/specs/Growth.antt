-- Cells that are added, and the way back to fewer.
use Rattle.std.specs.Prelude.{◌≡◌, ℕ, ◌+◌, ◌-◌, ◌≤◌, Bool, cond, List, [], ◌∷◌, ◌++◌, map, length, take, drop, Some, None, Option, nat_lt}
use Rattle.heap.specs.Limits.{cell_limit}
use Rattle.heap.specs.Heaps.{Heap, total, arity}
use Rattle.heap.specs.declared.cell.Cell.{Cell}
use Rattle.heap.specs.declared.cell.Cell.TheVariants.{Ref, Node}
use Rattle.matching.specs.Trails.{undone, InTrail}
use Rattle.matching.specs.declared.trail.Bound.{Bound}
use Rattle.cells.specs.States.{Fine}

-- the place of one more cell, unless there are as many as may be
abbrev pub placed : Heap → Option ℕ
placed H = cond (nat_lt (length H) cell_limit) (Some (length H)) None

-- the cells with one more, unless there are as many as may be
abbrev pub grown : Heap → Cell → Heap
grown H c = cond (nat_lt (length H) cell_limit) (H ++ c ∷ []) H

-- whether there is room for a structure and references to its arguments
abbrev pub fits : Heap → List ℕ → Bool
fits H args = nat_lt (length args) (cell_limit - length H)

abbrev pub structured : Heap → ℕ → List ℕ → Heap
structured H f args = (H ++ map Ref args) ++ Node f (length args) (length H) ∷ []

-- n cells are not yet the arguments of a structure
abbrev pub Spare : Heap → ℕ → Type 0
Spare H n = total arity H + n ≤ length H

-- from H' and t' there is a way back to H and t: the bindings since then are taken back, and the cells since then given up
pub record Grew (H : Heap) (t : List Bound) (H' : Heap) (t' : List Bound) : Type 0 where
  pub added : List Bound
  pub longer : t' ≡ t ++ added
  pub back : take (length H) (undone added H') ≡ H
  pub more : length H ≤ length H'
  pub inside : InTrail H' added

-- the state in which the trail was `mark` and the cells were `top` long may be come back to
pub record Saves (H : Heap) (t : List Bound) (mark top : ℕ) : Type 0 where
  pub marked : mark ≤ length t
  pub lower : top ≤ length H
  pub inside : InTrail H (drop mark t)
  pub fine : Fine (take top (undone (drop mark t) H)) mark
