use Rattle.std.proofs.Common.{◌≡◌, map, None, length, drop, replicate}
use Rattle.code.specs.Passes.{slot_pass}
use Rattle.code.specs.Words.{decode}
use Rattle.code.proofs.slots.keeps_slots.Given as goal

abbrev pub invariant-loop-i : goal.invariant-loop-i
invariant-loop-i l =
    (slot_pass l.slots l.arities l.i l.since (map decode (drop l.i l.code)) ≡ slot_pass l.slots l.arities 0 (replicate 256 None) (map decode l.code))
    × (length l.since ≡ 256)
