use Rattle.std.proofs.Common.{◌≡◌, ◌+◌, ◌≤◌, length, sum_by}
use Rattle.heap.specs.Limits.{cell_limit}
use Rattle.heap.specs.Marks.{blank, Search}
use Rattle.heap.proofs.search.Search.reaches.Given as goal

abbrev pub invariant-loop-at : goal.invariant-loop-at
invariant-loop-at l = record {
  search : Search l.cells l.start l.goal l.self.marks l.self.visits.items;
  long : length l.self.marks ≡ cell_limit;
  room : sum_by blank l.self.marks + length l.self.visits.items ≤ cell_limit;
}

abbrev pub decreases-loop-at : goal.decreases-loop-at
decreases-loop-at l = sum_by blank l.self.marks + length l.self.visits.items
