use Rattle.std.proofs.Common.{sym, subst}
use Rattle.lines.specs.Clauses.{SpellsQuery, OneReading}
use Rattle.lines.proofs.ClauseLaws.{one_query, said_query_lem}
use Rattle.lines.proofs.reader.read_query.Goals as goal

pub returns-clause-one_reading : goal.returns-clause-one_reading
returns-clause-one_reading c =
    let line = c.args.line.now in
    subst (OneReading (SpellsQuery line)) (sym (said_query_lem c.read.result line c.read.ensures.value)) (one_query line)
