use Rattle.std.proofs.Common.{◌≡◌, true, map, sym, subst, arith}
use Rattle.code.specs.Instructions.{sets}
use Rattle.code.specs.Words.{decode}
use Rattle.code.specs.Tests.{every}
use Rattle.code.specs.Passes.{inside}
use Rattle.code.proofs.RangeLaws.{all_inside, all_got, all_put}
use Rattle.code.proofs.rules.broken_rule.Goals as goal

pub keeps_slots-requires : goal.keeps_slots-requires
keeps_slots-requires c =
    let code = c.args.code.now in
    let ar = c.args.arities.now in
    record {
      few = omega (arith, c.opened_by.ensures.small);
      inside = subst (λ n. every (λ w. inside n (sets w)) (map decode code) ≡ true) (sym c.opened_by.ensures.value) (all_inside ar code (sym c.if-not-keeps_ranges.ensures));
    }

pub keeps_arguments-requires : goal.keeps_arguments-requires
keeps_arguments-requires c =
    let code = c.args.code.now in
    let ar = c.args.arities.now in
    record {
      got = all_got ar code (sym c.if-not-keeps_ranges.ensures);
      put = all_put ar code (sym c.if-not-keeps_ranges.ensures);
    }
