use Rattle.std.proofs.Common.{true, take}
use Rattle.answers.specs.Takes.{Puts}
use Rattle.answers.proofs.bytes.put_name.Given as goal

abbrev pub invariant-loop-i : goal.invariant-loop-i
invariant-loop-i g l = Puts g.row.S.Denot g.S.Sink.room g.S.Sink.holds true l.initial.sink l.initial.out l.sink l.out (take l.i (g.N.Names.naming l.names l.symbol))
