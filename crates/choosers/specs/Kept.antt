-- The rows that chains were told.
use Rattle.std.specs.Prelude.{List, map, take}
use Rattle.choosers.specs.declared.chains.Chains.{Chains}
use Rattle.choosers.specs.declared.row.Row.{Row}

abbrev pub rows_of : Chains → List Row
rows_of c = map (λ l. l.row) (take c.len c.links)
