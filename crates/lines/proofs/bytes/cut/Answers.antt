use Rattle.std.proofs.Common.{◌≡◌, length, take, drop, ap, ◌∙◌}
use Rattle.std.specs.Option.{unwrap_or}
use Rattle.lines.specs.Words.{run}
use Rattle.lines.proofs.Runs.{run_found}
use Rattle.lines.proofs.bytes.cut.Goals as goal
use Rattle.lines.proofs.bytes.cut.Goals.{After-split_at}

is_run : (c : After-split_at) → c.unwrap_or.result ≡ run c.args.stop c.args.bytes.now
is_run c = c.unwrap_or.ensures ∙ ap (λ o. unwrap_or o (length c.args.bytes.now)) c.find.ensures ∙ run_found c.args.stop c.args.bytes.now

pub returns-clause-front : goal.returns-clause-front
returns-clause-front c = c.split_at.ensures.front ∙ ap (λ n. take n c.args.bytes.now) (is_run c)

pub returns-clause-back : goal.returns-clause-back
returns-clause-back c = c.split_at.ensures.back ∙ ap (λ n. drop n c.args.bytes.now) (is_run c)
