-- The entries of a stack.
use Rattle.std.specs.Prelude.{List, take}
use Rattle.stack.specs.declared.stack.Stack.{Stack}

abbrev pub stacked : {T : Type 0} → Stack T → List T
stacked s = take s.len s.items.now
