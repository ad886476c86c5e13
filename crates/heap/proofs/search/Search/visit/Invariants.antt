use Rattle.heap.specs.Marks.{Visited}
use Rattle.heap.proofs.search.Search.visit.Given as goal

abbrev pub invariant-loop-k : goal.invariant-loop-k
invariant-loop-k l = Visited l.initial.self.marks l.self.marks l.initial.self.visits.items l.self.visits.items l.fn.range.start l.k
