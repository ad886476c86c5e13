use Rattle.std.proofs.Common.{◌≡◌, length, drop}
use Rattle.horn.specs.Terms.{count}
use Rattle.compiler.specs.Reading.{arities}
use Rattle.compiler.specs.Steps.{BodyUpTo}
use Rattle.compiler.specs.Tables.{items_of, laid}
use Rattle.symbol_table.specs.Tables.{signature}
use Rattle.compiler.proofs.ReadLaws.{stack}
use Rattle.compiler.proofs.flat.Flat.write_words.Given as goal

abbrev pub invariant-loop-p : goal.invariant-loop-p
invariant-loop-p l = record {
  body : BodyUpTo (laid l.self) l.goals l.initial.draft.words.items l.draft.words.items l.initial.end l.p-index l.end l.initial.draft.filled.items l.draft.filled.items;
  left : arities (signature l.self.symbols.now) (drop l.p-index l.goals) ≡ count (stack (signature l.self.symbols.now) (items_of l.self.places.now) l.end);
  slots : length l.draft.filled.items ≡ length l.initial.draft.filled.items;
}
