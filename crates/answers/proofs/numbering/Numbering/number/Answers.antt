use Rattle.std.proofs.Common.{◌≡◌, ◌+◌, ◌<◌, ◌≤◌, Some, length, set, sym, ap, ◌∙◌, arith, length-set, rules}
use Rattle.answers.proofs.NumberLaws.{known, fresh, marked_le, marked_set}
use Rattle.answers.proofs.numbering.Numbering.number.Goals as goal

pub returns-in-Some : goal.returns-in-Some
returns-in-Some c =
    let self = c.args.self.now in
    let within : c.args.v < length self.numbers = search rules in
    λ us h. known c.args.v us self.numbers self.seen within h c.in-Some.known c.in-Some.is

pub overflow_add-next : goal.overflow_add-next
overflow_add-next c =
    let self = c.args.self.now in
    let size : length self.numbers ≡ 4224 = search rules in
    let more = marked_set self.numbers c.args.v 1 (omega arith) c.in_default.is in
    let h : self.seen + 1 ≤ length self.numbers = omega (arith, self.tally, marked_le (set self.numbers c.args.v (Some 1)), length-set self.numbers c.args.v (Some 1)) in
    search rules

pub invariant_of-self : goal.invariant_of-self
invariant_of-self c =
    let self = c.args.self.now in
    let within : c.args.v < length self.numbers = search rules in
    record { tally = ap (λ n. n + 1) self.tally ∙ sym (marked_set self.numbers c.args.v _ within c.in_default.is) }

pub returns : goal.returns
returns c =
    let self = c.args.self.now in
    let within : c.args.v < length self.numbers = search rules in
    λ us h. fresh c.args.v us self.numbers self.seen within h c.in_default.is
