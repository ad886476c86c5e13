-- Words and instructions: the table says where each operand stands.
use Rattle.std.specs.Prelude.{ℕ, ◌+◌, ◌-◌, ◌*◌, ◌/◌, ◌%◌, ◌<◌, Bool, true, false, ◌&&◌, List, [], ◌∷◌, get_or, Some, None, Option, ◌==◌, nat_lt, slice_index_or}
use Rattle.code.specs.declared.table.Entry.{Entry}
use Rattle.code.specs.declared.table.Kind.{Kind}
use Rattle.code.specs.declared.table.Kind.TheVariants.{Nothing, Slots, Slot, Argument, Constant, Structure, Predicate}
use Rattle.code.specs.declared.words.Operands.{Operands}
use Rattle.code.specs.declared.instructions.Operand.{Operand}
use Rattle.code.specs.declared.instructions.Operand.TheVariants.{Fresh, Known, Constant as Fixed}
use Rattle.code.specs.declared.instructions.Instruction.{Instruction}
use Rattle.code.specs.declared.instructions.Instruction.TheVariants.{Allocate, Get, GetStructure, Unify, Put, PutStructure, Set, Call, Proceed}
use Rattle.code.specs.Table.{entry, table, found}
use Rattle.code.specs.Instructions.{number}

-- bits 24 to 31, 16 to 23 and 0 to 15
abbrev pub opcode : ℕ → ℕ
opcode w = w / 16777216

abbrev pub first : ℕ → ℕ
first w = w / 65536 % 256

abbrev pub second : ℕ → ℕ
second w = w % 65536

abbrev pub packed : ℕ → ℕ → ℕ → ℕ
packed o a b = o * 16777216 + a * 65536 + b

abbrev pub operands : ℕ → ℕ → ℕ → Operands
operands y a s = record { slot = y; argument = a; symbol = s }

-- the operands of an instruction, 0 where it has none
abbrev pub operands_by : Operand → ℕ → Operands
operands_by (Fresh y) a = operands y a 0
operands_by (Known y) a = operands y a 0
operands_by (Fixed c) a = operands 0 a c

abbrev pub operands_of : Instruction → Operands
operands_of (Allocate n) = operands n 0 0
operands_of (Get o a) = operands_by o a
operands_of (GetStructure y f) = operands y 0 f
operands_of (Unify o) = operands_by o 0
operands_of (Put o a) = operands_by o a
operands_of (PutStructure y f) = operands y 0 f
operands_of (Set o) = operands_by o 0
operands_of (Call p) = operands 0 0 p
operands_of Proceed = operands 0 0 0

-- slots and arguments have 8 bits, symbols 16
abbrev pub Narrow : Operands → Type 0
Narrow o = (o.slot < 256) × ((o.argument < 256) × (o.symbol < 65536))

-- what stands first for an operand of this kind: a slot or an argument
abbrev pub in_first : Kind → Operands → ℕ
in_first Nothing o = 0
in_first Slots o = o.slot
in_first Slot o = o.slot
in_first Argument o = o.argument
in_first Constant o = 0
in_first Structure o = 0
in_first Predicate o = 0

-- and what stands second: an argument or a symbol
abbrev pub in_second : Kind → Operands → ℕ
in_second Nothing o = 0
in_second Slots o = 0
in_second Slot o = 0
in_second Argument o = o.argument
in_second Constant o = o.symbol
in_second Structure o = o.symbol
in_second Predicate o = o.symbol

-- the operands of an instruction's opcode
abbrev pub entry_of : Instruction → Entry
entry_of i = slice_index_or table (number i - 1) (entry Nothing Nothing)

abbrev pub first_of : Instruction → ℕ
first_of i = in_first (entry_of i).first (operands_of i)

abbrev pub second_of : Instruction → ℕ
second_of i = in_second (entry_of i).second (operands_of i)

-- the word of an instruction
abbrev pub encode : Instruction → ℕ
encode i = packed (number i) (first_of i) (second_of i)

-- the argument among a word's operands
abbrev pub argument_by : Kind → ℕ → ℕ → ℕ
argument_by Argument a b = a
argument_by Nothing a b = b % 256
argument_by Slots a b = b % 256
argument_by Slot a b = b % 256
argument_by Constant a b = b % 256
argument_by Structure a b = b % 256
argument_by Predicate a b = b % 256

-- what the opcodes say of their operands, from 1 on
abbrev pub forms : List (Operands → Instruction)
forms =
    (λ o. Allocate o.slot)
    ∷ (λ o. Get (Fresh o.slot) o.argument)
    ∷ (λ o. Get (Known o.slot) o.argument)
    ∷ (λ o. Get (Fixed o.symbol) o.argument)
    ∷ (λ o. GetStructure o.slot o.symbol)
    ∷ (λ o. Unify (Fresh o.slot))
    ∷ (λ o. Unify (Known o.slot))
    ∷ (λ o. Unify (Fixed o.symbol))
    ∷ (λ o. Put (Fresh o.slot) o.argument)
    ∷ (λ o. Put (Known o.slot) o.argument)
    ∷ (λ o. Put (Fixed o.symbol) o.argument)
    ∷ (λ o. PutStructure o.slot o.symbol)
    ∷ (λ o. Set (Fresh o.slot))
    ∷ (λ o. Set (Known o.slot))
    ∷ (λ o. Set (Fixed o.symbol))
    ∷ (λ o. Call o.symbol)
    ∷ (λ o. Proceed)
    ∷ []

abbrev pub built : ℕ → Operands → Instruction
built n o = get_or ((λ x. Proceed) ∷ forms) n (λ x. Proceed) o

abbrev pub spread : Option Entry → ℕ → ℕ → ℕ → Instruction
spread None n a b = Proceed
spread (Some e) n a b = built n (operands a (argument_by e.first a b) b)

-- the instruction that a word is; a word with no opcode is read as proceed
abbrev pub decode : ℕ → Instruction
decode w = spread (found (opcode w)) (opcode w) (first w) (second w)

-- what an operand may be: one that is not named is 0, and an argument has 8 bits
abbrev pub fillable : Kind → ℕ → Bool
fillable Nothing v = v == 0
fillable Slots v = true
fillable Slot v = true
fillable Argument v = nat_lt v 256
fillable Constant v = true
fillable Structure v = true
fillable Predicate v = true

abbrev pub fillables : Option Entry → ℕ → ℕ → Bool
fillables None a b = false
fillables (Some e) a b = fillable e.first a && fillable e.second b

-- the word has an opcode, and operands that this one may have
abbrev pub is_instruction : ℕ → Bool
is_instruction w = fillables (found (opcode w)) (first w) (second w)
