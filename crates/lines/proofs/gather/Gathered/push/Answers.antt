use Rattle.std.proofs.Common.{rules}
use Rattle.lines.proofs.GatherLaws.{kept_more, kept_full}
use Rattle.lines.proofs.gather.Gathered.push.Goals as goal

pub returns-then-len-lt-ENOUGH : goal.returns-then-len-lt-ENOUGH
returns-then-len-lt-ENOUGH c = kept_more 513 c.args.b c.args.self.now.bytes c.args.self.now.len (search rules) (search rules)

pub returns-else-len-lt-ENOUGH : goal.returns-else-len-lt-ENOUGH
returns-else-len-lt-ENOUGH c = kept_full 513 c.args.b c.args.self.now.bytes c.args.self.now.len (search rules) (search rules)
