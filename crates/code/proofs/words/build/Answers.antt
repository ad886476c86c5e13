use Rattle.std.proofs.Common.{sym, ap, arith}
use Rattle.code.specs.Words.{built}
use Rattle.code.proofs.WordLaws.{built_past}
use Rattle.code.proofs.words.build.Goals as goal

pub returns-in_default : goal.returns-in_default
returns-in_default c = built_past c.args.opcode c.args.o (λ l. omega arith)

pub returns-in-2 : goal.returns-in-2
returns-in-2 c = sym (ap (λ n. built n c.args.o) c.in-2.is)
