use Rattle.std.proofs.Common.{◌≡◌, ◌<◌, length}
use Rattle.compiler.specs.Terms.{hop}
use Rattle.compiler.specs.Tables.{table, ends_of}
use Rattle.compiler.proofs.places.skip.Given as goal

abbrev pub invariant-loop : goal.invariant-loop
invariant-loop l = (l.at ≡ hop (table (ends_of l.places)) l.counter l.from) × (l.counter < l.n → l.at < length l.places)
