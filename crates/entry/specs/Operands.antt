-- Operands in a row.
use Rattle.std.specs.Prelude.{ℕ, ◌+◌, List, slice_index, slice_index_or}
use Rattle.code.specs.declared.instructions.Operand.{Operand}
use Rattle.code.specs.declared.instructions.Operand.TheVariants.{Fresh}
use Rattle.code.specs.Words.{decode}
use Rattle.entering.specs.Ready.{operand_of}

-- those of words
abbrev pub worded : List ℕ → ℕ → Operand
worded words = λ j. operand_of (decode (slice_index words j))

-- those that were put, from argument 1 on
abbrev pub put_at : List Operand → ℕ → Operand
put_at puts = λ j. slice_index_or puts (1 + j) (Fresh 0)
