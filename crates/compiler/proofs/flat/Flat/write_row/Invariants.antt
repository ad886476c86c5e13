use Rattle.std.proofs.Common.{◌≡◌, ◌+◌, ◌<◌, length}
use Rattle.compiler.specs.Terms.{hop}
use Rattle.compiler.specs.Emits.{Rowed}
use Rattle.compiler.specs.Rows.{Role, Makes}
use Rattle.compiler.specs.Tables.{laid}
use Rattle.compiler.proofs.flat.Flat.write_row.Given as goal

abbrev pub invariant-loop-k : goal.invariant-loop-k
invariant-loop-k g l = record {
  rowed : (role : Role) → Makes role (goal.F-post g l.make) → Rowed (laid l.self) role l.initial.draft.words.items l.draft.words.items l.initial.draft.filled.items l.draft.filled.items l.k l.from;
  words : length l.draft.words.items ≡ length l.initial.draft.words.items + l.k;
  slots : length l.draft.filled.items ≡ length l.initial.draft.filled.items;
  here : l.at ≡ hop (laid l.self).after l.k l.from;
  within : l.k < l.n → l.at < length l.self.places.now;
}
