use Rattle.std.proofs.Common.{true, []}
use Rattle.heap.specs.Solutions.{Valuation}
use Rattle.answers.specs.Frames.{Stands}
use Rattle.answers.specs.Takes.{Puts}
use Rattle.answers.proofs.ShowLaws.{Partly}
use Rattle.answers.proofs.terms.Terms.put_variables.Given as goal

abbrev pub invariant-loop-v : goal.invariant-loop-v
invariant-loop-v g l =
    (ρ : Valuation) → Stands (g.N.Names.naming l.self.names.now) l.self.cells.now ρ
    → Partly l.line ρ l.variables l.v-index [] (Puts g.row.S.Denot g.S.Sink.room g.S.Sink.holds true l.initial.sink l.initial.out l.sink l.out) l.scratch.numbering.numbers l.scratch.numbering.seen
