-- The trail: the cells that were bound, with what they held before.
use Rattle.std.specs.Prelude.{◌≡◌, ℕ, ◌+◌, ◌<◌, ◌≤◌, List, [], ◌∷◌, ◌++◌, length, take, drop, slice_set}
use Rattle.std.specs.List.{AllByRecursion}
use Rattle.heap.specs.Heaps.{Heap, cell, total, plain, arity}
use Rattle.heap.specs.declared.cell.Cell.TheVariants.{Node}
use Rattle.matching.specs.declared.trail.Bound.{Bound}

-- the heap once the bindings of the trail are taken back, the last first
abbrev pub undone : List Bound → Heap → Heap
undone [] H = H
undone (b ∷ t) H = slice_set (undone t H) b.at b.was

-- the cells of the trail are cells of the heap
abbrev pub InTrail : Heap → List Bound → Type 0
InTrail H t = AllByRecursion (λ b. b.at < length H) t

-- the trail t, with some bindings added, leads from H' back to H
pub record Kept (H : Heap) (t : List Bound) (H' : Heap) (t' : List Bound) : Type 0 where
  pub added : List Bound
  pub longer : t' ≡ t ++ added
  pub back : undone added H' ≡ H
  pub long : length H' ≡ length H
  pub inside : InTrail H added
  -- a reference is never bound again
  pub bound : length t' + total plain H' ≤ length t + total plain H
  pub fewer : total arity H' ≤ total arity H
  -- a structure was the same structure before
  pub nodes : (i f n b : ℕ) → cell H' i ≡ Node f n b → cell H i ≡ Node f n b

-- what is left to take back
pub record Undoing (H₀ : Heap) (t₀ : List Bound) (mark : ℕ) (H : Heap) (t : List Bound) : Type 0 where
  pub inside : InTrail H (drop mark t)
  pub marked : mark ≤ length t
  pub same : undone (drop mark t) H ≡ undone (drop mark t₀) H₀
  pub front : take mark t ≡ take mark t₀
