use Rattle.std.proofs.Common.{◌≡◌, ◌+◌, ◌≤◌, length}
use Rattle.text.specs.Buffers.{wrote}
use Rattle.text.proofs.NumberLaws.{left}
use Rattle.text.proofs.numbers.put_numbers.Given as goal

abbrev pub invariant-loop-n : goal.invariant-loop-n
invariant-loop-n l =
    (l.end + length (left l.numbers l.n-index) ≤ length l.out)
    × (wrote l.out l.end (left l.numbers l.n-index) ≡ wrote l.initial.out l.initial.end (left l.numbers 0))
