use Rattle.std.proofs.Common.{◌<◌, ◌≤◌, length, sym, ap, ◌∙◌, arith}
use Rattle.heap.proofs.MarkLaws.{visit_more, visit_less, visit_all}
use Rattle.heap.proofs.search.Search.visit.Goals as goal
use Rattle.heap.proofs.search.Search.visit.Goals.{then-not-has, else-not-has}

pub loop-k-preserved : goal.loop-k-preserved
loop-k-preserved c =
    let lo : c.args.range.start ≤ c.loop-k.k = omega arith in
    let lt : c.loop-k.k < length c.loop-k.self.marks = omega (arith, c.requires.within (omega arith), c.requires.marks, c.loop-k.invariant.long) in
    elim c.if-not-has.branch [
      | then-not-has w ↦ visit_more c.loop-k.invariant lo lt (sym c.has.ensures.value ∙ w.if-not-has.true)
          (ap (λ x. x.marks) w.self-is ∙ w.put.ensures.marks) (ap (λ x. x.visits.items) w.self-is ∙ w.push.ensures.items)
      | else-not-has w ↦ visit_less c.loop-k.invariant lo (sym c.has.ensures.value ∙ w.if-not-has.false)
          (ap (λ x. x.marks) w.self-is) (ap (λ x. x.visits.items) w.self-is)
    ]

pub returns : goal.returns
returns c = visit_all (omega arith) c.loop-k.invariant
