use Rattle.std.proofs.Common.{◌≡◌, map, drop, replicate}
use Rattle.code.specs.Passes.{notes}
use Rattle.code.specs.Instructions.{got}
use Rattle.code.specs.Words.{decode}
use Rattle.code.proofs.arguments.reads_head.Given as goal

abbrev pub invariant-loop-w : goal.invariant-loop-w
invariant-loop-w l = notes got l.counts (map decode (drop l.w-index l.code)) ≡ notes got (replicate 9 0) (map decode l.code)
