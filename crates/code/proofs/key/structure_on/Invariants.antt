use Rattle.std.proofs.Common.{◌≡◌, map, drop}
use Rattle.code.specs.Rules.{structure_on}
use Rattle.code.specs.Words.{decode}
use Rattle.code.proofs.key.structure_on.Given as goal

abbrev pub invariant-loop-w : goal.invariant-loop-w
invariant-loop-w l = structure_on l.slot (map decode (drop l.w-index l.code)) ≡ structure_on l.slot (map decode l.code)
