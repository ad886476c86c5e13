-- The names of instructions.
use Rattle.std.specs.Prelude.{ℕ, List, codes}
use Rattle.code.specs.declared.instructions.Operand.TheVariants.{Fresh, Known, Constant}
use Rattle.code.specs.declared.instructions.Instruction.{Instruction}
use Rattle.code.specs.declared.instructions.Instruction.TheVariants.{Allocate, Get, GetStructure, Unify, Put, PutStructure, Set, Call, Proceed}

abbrev pub mnemonic : Instruction → List ℕ
mnemonic (Allocate n) = codes "allocate"
mnemonic (Get (Fresh y) a) = codes "get_variable"
mnemonic (Get (Known y) a) = codes "get_value"
mnemonic (Get (Constant c) a) = codes "get_constant"
mnemonic (GetStructure y f) = codes "get_structure"
mnemonic (Unify (Fresh y)) = codes "unify_variable"
mnemonic (Unify (Known y)) = codes "unify_value"
mnemonic (Unify (Constant c)) = codes "unify_constant"
mnemonic (Put (Fresh y) a) = codes "put_variable"
mnemonic (Put (Known y) a) = codes "put_value"
mnemonic (Put (Constant c) a) = codes "put_constant"
mnemonic (PutStructure y f) = codes "put_structure"
mnemonic (Set (Fresh y)) = codes "set_variable"
mnemonic (Set (Known y)) = codes "set_value"
mnemonic (Set (Constant c)) = codes "set_constant"
mnemonic (Call p) = codes "call"
mnemonic Proceed = codes "proceed"
