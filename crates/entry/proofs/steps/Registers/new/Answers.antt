use Rattle.std.proofs.Common.{refl, arith}
use Rattle.entry.proofs.EndLaws.{no_slots}
use Rattle.entry.proofs.steps.Registers.new.Goals as goal

pub returns : goal.returns
returns c = record { slots = λ y. no_slots 128 y; opened = refl; puts = omega arith; goals = c.new.ensures }
