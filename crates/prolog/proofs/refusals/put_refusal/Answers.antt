use Rattle.std.proofs.Common.{◌≤◌, length, replicate, rules}
use Rattle.lines.specs.Refusals.{refusal_line}
use Rattle.prolog.proofs.RefusalLaws.{refusal_short, never_refused}
use Rattle.prolog.proofs.refusals.put_refusal.Goals as goal

pub returns-in_default : goal.returns-in_default
returns-in_default c =
    let r = c.args.refusal in
    let short : length (refusal_line r) ≤ 85 = refusal_short r (search rules) (search rules) (search rules) (search rules) in
    absurd (never_refused (refusal_line r) (replicate 85 0) short c.in_default.field-0 c.in_default.ensures.value)
