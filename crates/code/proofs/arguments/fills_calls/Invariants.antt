use Rattle.std.proofs.Common.{◌≡◌, map, drop, replicate}
use Rattle.code.specs.Passes.{walk, call_next}
use Rattle.code.specs.Words.{decode}
use Rattle.code.proofs.ArgumentLaws.{done}
use Rattle.code.proofs.arguments.fills_calls.Given as goal

abbrev pub invariant-loop-w : goal.invariant-loop-w
invariant-loop-w l = walk (call_next l.arities) done l.counts (map decode (drop l.w-index l.code)) ≡ walk (call_next l.arities) done (replicate 9 0) (map decode l.code)
