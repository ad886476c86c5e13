use Rattle.std.proofs.Common.{◌≡◌, ℕ, ◌+◌, ◌<◌, get_or, take}
use Rattle.compiler.specs.Lines.{structures}
use Rattle.compiler.specs.Tables.{items_of, slots_of}
use Rattle.compiler.proofs.slots.number_slots.Given as goal

abbrev pub invariant-loop-item : goal.invariant-loop-item
invariant-loop-item l = record {
  items : items_of l.places.items ≡ take l.item-index l.items;
  next : l.next ≡ l.vars + structures (take l.item-index l.items);
  slotted : (k : ℕ) → k < l.item-index → get_or (slots_of l.places.items) k 0 ≡ l.vars + structures (take k l.items);
}
