use Rattle.std.proofs.Common.{◌≡◌, ◌<◌, length}
use Rattle.heap.specs.Heaps.{walk, total, refs}
use Rattle.heap.specs.Solutions.{Naming, Valuation, Sol}
use Rattle.heap.proofs.follow.root.Given as goal

abbrev pub invariant-loop-at : goal.invariant-loop-at
invariant-loop-at l = (l.at < length l.cells) × ((names : Naming) (ρ : Valuation) → Sol names l.cells ρ → ρ l.i ≡ ρ l.at)

abbrev pub decreases-loop-at : goal.decreases-loop-at
decreases-loop-at l = walk (total refs l.cells) l.cells l.at
