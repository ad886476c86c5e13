use Rattle.std.proofs.Common.{◌≡◌, ◌+◌, ◌*◌, ◌≤◌, length}
use Rattle.lines.specs.Fields.{after}
use Rattle.lines.specs.Steps.{check_at}
use Rattle.lines.proofs.reader.check_fields.Given as goal

abbrev pub invariant-loop-field : goal.invariant-loop-field
invariant-loop-field l =
    (check_at l.state l.place (after l.left.rest.now) ≡ check_at l.initial.state 3 (after l.initial.left.rest.now))
    × (l.place + length l.left.rest.now ≤ 515)
    × (l.state.weight ≤ 128)
    × (l.state.price ≤ 1)
    × (l.state.need ≤ 256 * l.place)

abbrev pub decreases-loop-field : goal.decreases-loop-field
decreases-loop-field l = length l.left.rest.now
