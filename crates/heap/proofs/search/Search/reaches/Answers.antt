use Rattle.std.proofs.Common.{Bool, false, length, sum_by, refl, ap, ◌∙◌, subst, arith}
use lib.ListN.{length-replicate}
use Rattle.heap.specs.Limits.{cell_limit}
use Rattle.heap.specs.Heaps.{Reach}
use Rattle.heap.specs.Marks.{blank}
use Rattle.heap.proofs.MarkLaws.{search_begin, search_turn, search_falls, search_end, search_met, nothing_left, blanks_all, not_true}
use Rattle.heap.proofs.search.Search.reaches.Goals as goal

pub loop-at-init : goal.loop-at-init
loop-at-init c = record {
  search = search_begin cell_limit c.clear.ensures (ap length c.clear-2.ensures) c.requires.within c.requires.small c.visit.ensures;
  long = c.visit.ensures.long ∙ ap length c.clear.ensures ∙ length-replicate {A = Bool} cell_limit false;
  room = omega (arith, c.visit.ensures.spent, ap (sum_by blank) c.clear.ensures, blanks_all cell_limit, ap length c.clear-2.ensures);
}

pub returns-then-at-goal : goal.returns-then-at-goal
returns-then-at-goal c =
    let met = search_met _ c.in-Some.at c.in-Some.ensures.items c.loop-at.invariant.search in
    (λ _. subst (λ x. Reach c.args.cells.now c.args.start x) c.if-at-goal.true met.0, λ _. refl)

pub below-requires-clause-within : goal.below-requires-clause-within
below-requires-clause-within c = (search_met _ c.in-Some.at c.in-Some.ensures.items c.loop-at.invariant.search).1

pub loop-at-preserved : goal.loop-at-preserved
loop-at-preserved c =
    let v = c.visit-in-Some.ensures in
    let was = c.loop-at.invariant in
    let taken = c.in-Some.ensures.items in
    record {
      search = search_turn taken v was.search c.if-at-goal.false c.below.ensures;
      long = v.long ∙ was.long;
      room = omega (arith, search_falls c.in-Some.at taken v, was.room);
    }

pub returns : goal.returns
returns c =
    let none = nothing_left c.loop-at.self.visits.items c.in_default.ensures.variant.1 in
    (λ q. absurd (not_true q), λ r. absurd (search_end none c.loop-at.invariant.search r))
