use Rattle.std.proofs.Common.{◌+◌, length}
use Rattle.heap.specs.Heaps.{total, arity}
use Rattle.matching.specs.Trails.{Kept}
use Rattle.matching.specs.Unifies.{Unifying}
use Rattle.matching.proofs.unifier.Unifier.unify.Given as goal

abbrev pub invariant-loop-pair : goal.invariant-loop-pair
invariant-loop-pair g l = record {
  unifying : Unifying l.initial.cells l.a l.b l.cells l.self.pairs.items;
  kept : Kept l.initial.cells l.initial.trail l.cells l.trail;
}

abbrev pub decreases-loop-pair : goal.decreases-loop-pair
decreases-loop-pair g l = total arity l.cells + length l.self.pairs.items
