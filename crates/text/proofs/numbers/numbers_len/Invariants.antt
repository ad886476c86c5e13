use Rattle.std.proofs.Common.{◌≡◌, ◌+◌, ◌≤◌, length}
use Rattle.text.proofs.NumberLaws.{left}
use Rattle.text.proofs.numbers.numbers_len.Given as goal

abbrev pub invariant-loop-n : goal.invariant-loop-n
invariant-loop-n l = (l.len ≤ l.limit) × (l.len + length (left l.numbers l.n-index) ≡ length (left l.numbers 0))
