use Rattle.std.proofs.Common.{◌≡◌, ◌-◌, ◌<◌, length, take, Option, ap, ◌∙◌, subst, rules, arith}
use Rattle.std.proofs.lemmas.List.{length-take}
use Rattle.choosers.specs.declared.chains.Link.{Link}
use Rattle.choosers.specs.declared.chains.Ends.{Ends}
use Rattle.choosers.specs.Chained.{symbol_at, Starts}
use Rattle.choosers.proofs.PickLaws.{told_at, head_of, start_first, start_next}
use Rattle.choosers.proofs.chains.Chains.start.Goals as goal

pub returns-then-self-after : goal.returns-then-self-after
returns-then-self-after c =
    let s = c.args.self.now in
    let xs = take s.len s.links in
    let i = c.args.after - 1 in
    let within : i < length xs = omega (arith, length-take s.len s.links) in
    let same = told_at s.links s.len i within in
    let has : symbol_at xs i ≡ c.args.symbol = ap (λ (l : Link). l.row.symbol) same ∙ c.if-self-after.true in
    subst (λ (l : Link). Starts xs c.args.symbol c.args.after l.next) same (start_next xs s.ends c.args.symbol c.args.after s.chained (search rules) (omega arith) has)

pub returns : goal.returns
returns c =
    let s = c.args.self.now in
    subst (λ (o : Option Ends). Starts (take s.len s.links) c.args.symbol c.args.after (head_of o)) c.in_ok-self.was
    (start_first (take s.len s.links) s.ends c.args.symbol c.args.after s.chained (search rules))
