use Rattle.std.proofs.Common.{◌≡◌, ◌-◌, ◌<◌, ◌≤◌, length, true, None, is_some, get_or, set, ap, sym, ◌∙◌, ⊎_elim, arith, rules}
use Rattle.std.proofs.lemmas.List.{set-set, get_or_past}
use Rattle.std.proofs.lemmas.Bool.{cases_lt}
use Rattle.answers.specs.Numbering.{marked}
use Rattle.answers.proofs.NumberLaws.{marked_take, numbered_without}
use Rattle.answers.proofs.numbering.Numbering.forget.Goals as goal

pub overflow_sub-self : goal.overflow_sub-self
overflow_sub-self c =
    let some : is_some (get_or c.loop-v.self.numbers c.loop-v.v None) ≡ true = cc in
    omega (arith, c.loop-v.self.tally, marked_take c.loop-v.self.numbers c.loop-v.v some)

pub invariant_of-self : goal.invariant_of-self
invariant_of-self c =
    let numbers = c.loop-v.self.numbers in
    let some : is_some (get_or numbers c.loop-v.v None) ≡ true = cc in
    let left : c.loop-v.self.seen - 1 ≡ marked (set numbers c.loop-v.v None) = omega (arith, c.loop-v.self.tally, marked_take numbers c.loop-v.v some) in
    record { tally = left ∙ ap marked (sym (set-set numbers c.loop-v.v (get_or numbers c.loop-v.v None) None)) }

pub returns-clause-without : goal.returns-clause-without
returns-clause-without c =
    let numbers = c.loop-v.self.numbers in
    let size : length c.args.self.now.numbers ≡ 4224 = search rules in
    record {
      gone = λ v l. ⊎_elim (λ (a : v < c.loop-v.v). c.loop-v.invariant.without.gone v a) (λ (b : c.loop-v.v ≤ v). get_or_past numbers v None (omega arith)) (cases_lt v c.loop-v.v);
      others = λ v l. c.loop-v.invariant.without.others v (omega arith);
    }

pub returns-clause-all : goal.returns-clause-all
returns-clause-all c = numbered_without c.args.cells c.args.self.now.numbers c.loop-v.self.numbers c.loop-v.self.seen c.loop-v.self.tally (returns-clause-without c)
