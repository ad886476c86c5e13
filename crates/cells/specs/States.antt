-- What safety needs of the cells and the trail.
use Rattle.std.specs.Prelude.{ℕ, ◌+◌, ◌≤◌, length}
use Rattle.heap.specs.Heaps.{Heap, Sound, Closed, total, arity, plain}

-- cells that matching may work on, when the trail has n entries:
-- no cell leads back to itself, arguments are cells of their own, and a reference is never bound again
pub record Fine (H : Heap) (n : ℕ) : Type 0 where
  pub sound : Sound H
  pub closed : Closed H
  pub arguments : total arity H ≤ length H
  pub bindings : n + total plain H ≤ length H
