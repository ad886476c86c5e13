-- Keys: a clause whose key clashes with the goal's cannot be entered.
use Rattle.std.specs.Prelude.{ℕ, ◌+◌, ◌<◌, List, map, length, ◌≢◌}
use Rattle.heap.specs.Heaps.{Heap, cell}
use Rattle.heap.specs.Solutions.{Root}
use Rattle.heap.specs.declared.cell.Cell.{Cell}
use Rattle.heap.specs.declared.cell.Cell.TheVariants.{Unbound, Ref, Node}
use Rattle.code.specs.Words.{decode}
use Rattle.code.specs.Meaning.{Symbols}
use Rattle.entering.specs.declared.goal.Goal.{Goal}
use Rattle.entering.specs.Goals.{Names, Typed, Good}
use Rattle.entering.specs.Entries.{Denied}
use Rattle.entering.specs.Checks.{Runnable}

-- 1 plus the symbol of the first argument, whose root holds this cell; 0 where that is unbound
abbrev pub key_in : Cell → ℕ
key_in Unbound = 0
key_in (Ref i) = 0
key_in (Node f n b) = 1 + f

abbrev pub Clash : ℕ → ℕ → Type 0
Clash a b = (0 < a) × (0 < b) × (a ≢ b)

abbrev pub KeyDenies : Type 0
KeyDenies =
    (s : Symbols) (table words : List ℕ) (H : Heap) (g : Goal) (r : ℕ) → Names s table → (c : Runnable table g.symbol words) → Typed table H → Good table (length H) g → 0 < g.arity
    → Root H g.first r → Clash c.key (key_in (cell H r)) → Denied s H g (map decode words)
