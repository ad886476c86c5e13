use Rattle.std.proofs.Common.{true, take}
use Rattle.answers.specs.Takes.{Puts}
use Rattle.answers.proofs.bytes.put_bytes.Given as goal

abbrev pub invariant-loop-b : goal.invariant-loop-b
invariant-loop-b g l = Puts g.row.S.Denot g.S.Sink.room g.S.Sink.holds true l.initial.sink l.initial.out l.sink l.out (take l.b-index l.bytes)
