use Rattle.std.proofs.Common.{ℕ, ◌<◌, true, List, length}
use Rattle.heap.specs.Solutions.{Valuation, Sol}
use Rattle.heap.proofs.SpanLaws.{size}
use Rattle.answers.specs.Numbering.{Numbered}
use Rattle.answers.specs.Takes.{Puts}
use Rattle.answers.proofs.FrameLaws.{Above, Chain}
use Rattle.answers.proofs.TurnLaws.{Moved}
use Rattle.answers.proofs.terms.Terms.put_value.Given as goal

abbrev pub invariant-loop-frame : goal.invariant-loop-frame
invariant-loop-frame g l =
    record {
      within : l.at < length l.self.cells.now;
      chain : (ρ : Valuation) → Sol (g.N.Names.naming l.self.names.now) l.self.cells.now ρ
          → Chain (λ i. size (ρ i)) (length l.self.cells.now) l.scratch.stack.items × Above (λ i. size (ρ i)) (size (ρ l.at)) l.scratch.stack.items;
      moved : (us : List ℕ) → Numbered us l.initial.scratch.numbering.numbers l.initial.scratch.numbering.seen
          → Moved (g.N.Names.naming l.self.names.now) l.self.cells.now l.initial.at us (Puts g.row.S.Denot g.S.Sink.room g.S.Sink.holds true l.initial.sink l.initial.out l.sink l.out) l.scratch.numbering.numbers l.scratch.numbering.seen l.at l.scratch.stack.items;
    }

abbrev pub decreases-loop-frame : goal.decreases-loop-frame
decreases-loop-frame g l = g.S.Sink.room l.sink l.out
