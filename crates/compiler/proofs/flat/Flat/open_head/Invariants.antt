use Rattle.std.proofs.Common.{◌≡◌, length}
use Rattle.symbol_table.specs.Symbols.{arity_at}
use Rattle.compiler.specs.Steps.{HeadUpTo}
use Rattle.compiler.specs.Tables.{laid}
use Rattle.compiler.proofs.flat.Flat.open_head.Given as goal

abbrev pub invariant-loop-i : goal.invariant-loop-i
invariant-loop-i l = record {
  opened : HeadUpTo (laid l.self) l.initial.draft.words.items l.draft.words.items (arity_at (laid l.self).sig l.p) l.i l.end l.initial.draft.filled.items l.draft.filled.items;
  slots : length l.draft.filled.items ≡ length l.initial.draft.filled.items;
}
