use Rattle.std.proofs.Common.{sym, subst}
use Rattle.lines.specs.Clauses.{SpellsClause, OneReading}
use Rattle.lines.proofs.ClauseLaws.{one_clause, said_clause_lem}
use Rattle.lines.proofs.reader.read_clause.Goals as goal

pub returns-clause-one_reading : goal.returns-clause-one_reading
returns-clause-one_reading c =
    let line = c.args.line.now in
    subst (OneReading (SpellsClause line)) (sym (said_clause_lem c.read.result line c.read.ensures.value)) (one_clause line)
