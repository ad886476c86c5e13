-- Instructions that name known symbols, each of the right arity.
use Rattle.std.specs.Prelude.{◌≡◌, ℕ, ◌<◌, ◌≤◌, List, [], ◌∷◌, length}
use Rattle.code.specs.Limits.{slot_limit}
use Rattle.symbol_table.specs.Symbols.{Signature, arity_at}
use Rattle.code.specs.declared.instructions.Operand.{Operand}
use Rattle.code.specs.declared.instructions.Operand.TheVariants.{Fresh, Known, Constant}
use Rattle.code.specs.declared.instructions.Instruction.{Instruction}
use Rattle.code.specs.declared.instructions.Instruction.TheVariants.{Allocate, Get, GetStructure, Unify, Put, PutStructure, Set, Call, Proceed}

-- a constant has no arguments
abbrev pub Fair : Signature → Operand → Type 0
Fair sig (Fresh y) = Unit {0}
Fair sig (Known y) = Unit {0}
Fair sig (Constant c) = (c < length sig) × (arity_at sig c ≡ 0)

-- a structure has some
abbrev pub Formed : Signature → ℕ → Type 0
Formed sig f = (f < length sig) × (1 ≤ arity_at sig f)

abbrev pub Lawful : Signature → Instruction → Type 0
Lawful sig (Allocate n) = n ≤ slot_limit
Lawful sig (Get o a) = Fair sig o
Lawful sig (GetStructure y f) = Formed sig f
Lawful sig (Unify o) = Fair sig o
Lawful sig (Put o a) = Fair sig o
Lawful sig (PutStructure y f) = Formed sig f
Lawful sig (Set o) = Fair sig o
Lawful sig (Call p) = p < length sig
Lawful sig Proceed = Unit {0}

abbrev pub Fairs : Signature → List Operand → Type 0
Fairs sig [] = Unit {0}
Fairs sig (o ∷ os) = Fair sig o × Fairs sig os

abbrev pub Lawfuls : Signature → List Instruction → Type 0
Lawfuls sig [] = Unit {0}
Lawfuls sig (w ∷ ws) = Lawful sig w × Lawfuls sig ws
