use Rattle.std.proofs.Common.{◌≡◌, map, drop}
use Rattle.code.specs.Rules.{key_of}
use Rattle.code.specs.Words.{decode}
use Rattle.code.proofs.key.key_of.Given as goal

abbrev pub invariant-loop-i : goal.invariant-loop-i
invariant-loop-i l = key_of (map decode (drop l.i l.code)) ≡ key_of (map decode l.code)
