use Rattle.std.proofs.Common.{◌+◌, ◌*◌, ◌≤◌, length}
use Rattle.lines.specs.Said.{words_left}
use Rattle.symbol_table.specs.Tables.{signature}
use Rattle.compiler.proofs.FlattenSteps.{Flattening}
use Rattle.compiler.proofs.flatten.flatten.Given as goal

abbrev pub invariant-loop-token : goal.invariant-loop-token
invariant-loop-token l = record {
  found : Flattening (signature l.symbols) (words_left l.fn.body) (signature l.variables) l.need (words_left l.body) l.predicates.items l.items.items;
  few : length (signature l.variables) ≤ length l.items.items;
  bounded : l.need ≤ 255 + 256 * length l.items.items;
}

abbrev pub decreases-loop-token : goal.decreases-loop-token
decreases-loop-token l = length l.body.rest.now
