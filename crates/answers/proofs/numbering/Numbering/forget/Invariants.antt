use Rattle.std.proofs.Common.{◌≡◌, length}
use Rattle.answers.specs.Numbering.{Without}
use Rattle.answers.proofs.numbering.Numbering.forget.Given as goal

abbrev pub invariant-loop-v : goal.invariant-loop-v
invariant-loop-v l = record {
  without : Without l.v l.initial.self.numbers l.self.numbers;
  size : length l.self.numbers ≡ length l.initial.self.numbers;
}
