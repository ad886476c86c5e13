use Rattle.std.proofs.Common.{◌≡◌, []}
use Rattle.compiler.specs.Places.{Ends}
use Rattle.compiler.specs.Lines.{plan}
use Rattle.compiler.specs.Tables.{items_of, ends_of, slots_of}
use Rattle.symbol_table.specs.Tables.{signature}
use Rattle.compiler.proofs.places.find_places.Given as goal

abbrev pub invariant-loop-i : goal.invariant-loop-i
invariant-loop-i l = record {
  ends : Ends (plan (signature l.symbols) (items_of l.places) (ends_of l.places) []) l.i;
  items : items_of l.places ≡ items_of l.initial.places;
  slots : slots_of l.places ≡ slots_of l.initial.places;
}
