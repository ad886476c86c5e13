use Rattle.unify.specs.Grows.{Grows}
use Rattle.unify.proofs.building.build.Given as goal

abbrev pub invariant-loop-part : goal.invariant-loop-part
invariant-loop-part l = Grows l.initial.store l.store
