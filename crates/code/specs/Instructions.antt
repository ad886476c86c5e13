-- What an instruction does with slots, arguments and symbols.
use Rattle.std.specs.Prelude.{ℕ, ◌+◌, Bool, ◌&&◌, Some, None, Option, nat_le}
use Rattle.code.specs.declared.instructions.Operand.{Operand}
use Rattle.code.specs.declared.instructions.Operand.TheVariants.{Fresh, Known, Constant}
use Rattle.code.specs.declared.instructions.Instruction.{Instruction}
use Rattle.code.specs.declared.instructions.Instruction.TheVariants.{Allocate, Get, GetStructure, Unify, Put, PutStructure, Set, Call, Proceed}

-- the opcode: of three in a row the first fills a slot, the second uses one, and the third has a constant
abbrev pub form : Operand → ℕ
form (Fresh y) = 0
form (Known y) = 1
form (Constant c) = 2

abbrev pub number : Instruction → ℕ
number (Allocate n) = 1
number (Get o a) = 2 + form o
number (GetStructure y f) = 5
number (Unify o) = 6 + form o
number (Put o a) = 9 + form o
number (PutStructure y f) = 12
number (Set o) = 13 + form o
number (Call p) = 16
number Proceed = 17

-- an opcode from a to b
abbrev pub within : ℕ → ℕ → Instruction → Bool
within a b w = nat_le a (number w) && nat_le (number w) b

-- the slot that an operand fills, and that it uses
abbrev pub fresh : Operand → Option ℕ
fresh (Fresh y) = Some y
fresh (Known y) = None
fresh (Constant c) = None

abbrev pub known : Operand → Option ℕ
known (Fresh y) = None
known (Known y) = Some y
known (Constant c) = None

-- the slot that an instruction sets, and the one that it reads
abbrev pub sets : Instruction → Option ℕ
sets (Allocate n) = None
sets (Get o a) = fresh o
sets (GetStructure y f) = None
sets (Unify o) = fresh o
sets (Put o a) = fresh o
sets (PutStructure y f) = Some y
sets (Set o) = fresh o
sets (Call p) = None
sets Proceed = None

abbrev pub reads : Instruction → Option ℕ
reads (Allocate n) = None
reads (Get o a) = known o
reads (GetStructure y f) = Some y
reads (Unify o) = known o
reads (Put o a) = known o
reads (PutStructure y f) = None
reads (Set o) = known o
reads (Call p) = None
reads Proceed = None

-- the argument that opcodes 2 to 4 read, and that 9 to 11 put, or 0
abbrev pub got : Instruction → ℕ
got (Allocate n) = 0
got (Get o a) = a
got (GetStructure y f) = 0
got (Unify o) = 0
got (Put o a) = 0
got (PutStructure y f) = 0
got (Set o) = 0
got (Call p) = 0
got Proceed = 0

abbrev pub put : Instruction → ℕ
put (Allocate n) = 0
put (Get o a) = 0
put (GetStructure y f) = 0
put (Unify o) = 0
put (Put o a) = a
put (PutStructure y f) = 0
put (Set o) = 0
put (Call p) = 0
put Proceed = 0

-- the predicate that is called
abbrev pub called : Instruction → Option ℕ
called (Allocate n) = None
called (Get o a) = None
called (GetStructure y f) = None
called (Unify o) = None
called (Put o a) = None
called (PutStructure y f) = None
called (Set o) = None
called (Call p) = Some p
called Proceed = None
