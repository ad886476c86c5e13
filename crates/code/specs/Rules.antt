-- The rules V1 to V7 of a clause's code.
use Rattle.std.specs.Prelude.{ℕ, zero, suc, ◌+◌, Bool, true, false, cond, not, ◌&&◌, ◌||◌, leb, List, [], ◌∷◌, map, length, Some, None, Option, ◌==◌, nat_eq, nat_le, nat_lt, slice_index}
use Rattle.code.specs.declared.table.Entry.{Entry}
use Rattle.code.specs.declared.table.Kind.{Kind}
use Rattle.code.specs.declared.table.Kind.TheVariants.{Nothing, Slots, Slot, Argument, Constant, Structure, Predicate}
use Rattle.code.specs.declared.instructions.Operand.{Operand}
use Rattle.code.specs.declared.instructions.Operand.TheVariants.{Fresh, Known, Constant as Fixed}
use Rattle.code.specs.declared.instructions.Instruction.{Instruction}
use Rattle.code.specs.declared.instructions.Instruction.TheVariants.{Allocate, Get, GetStructure, Unify, Put, PutStructure, Set, Call, Proceed}
use Rattle.code.specs.declared.rules.Rule.{Rule}
use Rattle.code.specs.declared.rules.Rule.TheVariants.{Ranges, Frame, Order, Structures, Slots as KeptSlots, Arguments, Key}
use Rattle.code.specs.Limits.{slot_limit, word_limit, call_limit, argument_limit}
use Rattle.code.specs.Table.{found}
use Rattle.code.specs.Tests.{every, some, total, run, along, each_at, below, chosen, is}
use Rattle.code.specs.Instructions.{number, within, sets, reads, got, put, called}
use Rattle.code.specs.Words.{opcode, first, second, decode, entry_of, first_of, second_of}

-- V1: opcodes and operands are in range.
-- the slots that the code opens
abbrev pub opened : List ℕ → ℕ
opened [] = 0
opened (w ∷ ws) = cond (opcode w == 1) (first w) 0

-- a value in the range of its kind, with n slots and these symbols' arities
abbrev pub in_range : ℕ → List ℕ → Kind → ℕ → Bool
in_range n arities Nothing v = v == 0
in_range n arities Slots v = nat_le v slot_limit
in_range n arities Slot v = nat_lt v n
in_range n arities Argument v = nat_le 1 v && nat_le v argument_limit
in_range n arities Constant v = nat_lt v (length arities) && slice_index arities v == 0
in_range n arities Structure v = nat_lt v (length arities) && nat_le 1 (slice_index arities v)
in_range n arities Predicate v = nat_lt v (length arities)

abbrev pub allowed : ℕ → List ℕ → Option Entry → ℕ → ℕ → Bool
allowed n arities None a b = false
allowed n arities (Some e) a b = in_range n arities e.first a && in_range n arities e.second b

abbrev pub legal : ℕ → List ℕ → ℕ → Bool
legal n arities w = allowed n arities (found (opcode w)) (first w) (second w)

abbrev pub v1 : List ℕ → List ℕ → Bool
v1 arities ws = every (legal (opened ws) arities) ws

-- V1 of an instruction
abbrev pub ranged : ℕ → List ℕ → Instruction → Bool
ranged n arities i = in_range n arities (entry_of i).first (first_of i) && in_range n arities (entry_of i).second (second_of i)

-- V2: allocate is the first word only and proceed the last only, at most 128 words and 8 calls between.
abbrev pub closes : List Instruction → Bool
closes [] = false
closes (w ∷ []) = number w == 17
closes (w ∷ x ∷ ws) = within 2 16 w && closes (x ∷ ws)

abbrev pub v2 : List Instruction → Bool
v2 [] = false
v2 (w ∷ ws) = (number w == 1 && closes ws) && (nat_le (length ws) (word_limit + 1) && nat_le (total (within 16 16) ws) call_limit)

-- V3: opcodes 2 to 8 stand before 9 to 16, and every 9 to 15 has a call somewhere after it.
abbrev pub v3 : List Instruction → Bool
v3 = along (λ w ws. (not (within 9 16 w) || not (some (within 2 8) ws)) && (not (within 9 15 w) || some (within 16 16) ws))

-- V4: get_structure is followed at once by as many unify words as its symbol's arity, put_structure by as many set words; these stand
-- nowhere else. So no other word is followed at once by one of them, but for their own kind.
abbrev pub unifies : List ℕ → Instruction → ℕ
unifies arities (Allocate n) = 0
unifies arities (Get o a) = 0
unifies arities (GetStructure y f) = slice_index arities f
unifies arities (Unify o) = 0
unifies arities (Put o a) = 0
unifies arities (PutStructure y f) = 0
unifies arities (Set o) = 0
unifies arities (Call p) = 0
unifies arities Proceed = 0

abbrev pub builds : List ℕ → Instruction → ℕ
builds arities (Allocate n) = 0
builds arities (Get o a) = 0
builds arities (GetStructure y f) = 0
builds arities (Unify o) = 0
builds arities (Put o a) = 0
builds arities (PutStructure y f) = slice_index arities f
builds arities (Set o) = 0
builds arities (Call p) = 0
builds arities Proceed = 0

abbrev pub v4 : List ℕ → List Instruction → Bool
v4 arities code =
    (run (within 6 8) code == 0 && run (within 13 15) code == 0)
    && along (λ w ws. (within 6 8 w || run (within 6 8) ws == unifies arities w) && (within 13 15 w || run (within 13 15) ws == builds arities w)) code

-- V5: each slot below n is set exactly once, and read only afterwards; put_structure's slot is set after its set words.
-- whether the slot y is set before word j
abbrev pub set_before : List ℕ → List Instruction → ℕ → ℕ → Bool
set_before arities [] y j = false
set_before arities (w ∷ ws) y zero = false
set_before arities (w ∷ ws) y (suc j) = (is (sets w) y && nat_le (builds arities w) j) || set_before arities ws y j

abbrev pub ready : List ℕ → List Instruction → ℕ → Option ℕ → Bool
ready arities code j None = true
ready arities code j (Some y) = set_before arities code y j

abbrev pub v5 : ℕ → List ℕ → List Instruction → Bool
v5 n arities code =
    below n (λ y. nat_eq (total (λ w. is (sets w) y) code) 1)
    && each_at (λ j w. ready arities code j (reads w)) code

-- V6: each head argument, and none beyond, is read by exactly one of opcodes 2 to 4; since the previous call, each argument of a call is
-- put once, and none beyond.
abbrev pub filled : (Instruction → ℕ) → ℕ → List Instruction → Bool
filled arg m ws = below m (λ a. nat_eq (total (λ w. nat_eq (arg w) (a + 1)) ws) 1) && every (λ w. leb (arg w) m) ws

-- `since` has the words since the previous call, the last first
abbrev pub calls : List ℕ → List Instruction → List Instruction → Bool
calls arities since [] = true
calls arities since (w ∷ ws) = chosen (called w) (λ p. filled put (slice_index arities p) since && calls arities [] ws) (calls arities (w ∷ since) ws)

abbrev pub v6 : ℕ → List ℕ → List Instruction → Bool
v6 m arities code = filled got m code && calls arities [] code

-- V7: the key is 1 + c for get_constant 1,c, or 1 + f if argument 1 goes to a slot by get_variable and f is the first get_structure on that
-- slot; else 0.
abbrev pub structure_at : ℕ → Instruction → Option ℕ
structure_at y (GetStructure z f) = cond (z == y) (Some f) None
structure_at y (Allocate n) = None
structure_at y (Get o a) = None
structure_at y (Unify o) = None
structure_at y (Put o a) = None
structure_at y (PutStructure z f) = None
structure_at y (Set o) = None
structure_at y (Call p) = None
structure_at y Proceed = None

-- the key of a symbol, if there is one
abbrev pub keyed : Option ℕ → ℕ
keyed o = chosen o (λ f. 1 + f) 0

abbrev pub structure_on : ℕ → List Instruction → ℕ
structure_on y [] = 0
structure_on y (w ∷ ws) = chosen (structure_at y w) (λ f. 1 + f) (structure_on y ws)

-- what argument 1 is matched with
abbrev pub argument_one : Instruction → Option Operand
argument_one (Get o a) = cond (a == 1) (Some o) None
argument_one (Allocate n) = None
argument_one (GetStructure y f) = None
argument_one (Unify o) = None
argument_one (Put o a) = None
argument_one (PutStructure y f) = None
argument_one (Set o) = None
argument_one (Call p) = None
argument_one Proceed = None

abbrev pub key_by : Operand → List Instruction → ℕ
key_by (Fresh y) ws = structure_on y ws
key_by (Known y) ws = 0
key_by (Fixed c) ws = 1 + c

abbrev pub key_of : List Instruction → ℕ
key_of [] = 0
key_of (w ∷ ws) = chosen (argument_one w) (λ o. key_by o ws) (key_of ws)

abbrev pub v7 : ℕ → List Instruction → Bool
v7 key code = key == key_of code

-- the rules, numbered from 1 on
abbrev pub rule_number : Rule → ℕ
rule_number Ranges = 1
rule_number Frame = 2
rule_number Order = 3
rule_number Structures = 4
rule_number KeptSlots = 5
rule_number Arguments = 6
rule_number Key = 7

-- the first rule of those that are not kept
abbrev pub lowest : List Rule → List Bool → Option Rule
lowest [] ks = None
lowest (r ∷ rs) [] = None
lowest (r ∷ rs) (kept ∷ ks) = cond kept (lowest rs ks) (Some r)

-- the lowest rule that a clause's code breaks
abbrev pub broken : List ℕ → ℕ → ℕ → List ℕ → Option Rule
broken arities predicate key ws =
    let code = map decode ws in
    lowest (Ranges ∷ Frame ∷ Order ∷ Structures ∷ KeptSlots ∷ Arguments ∷ Key ∷ [])
    (v1 arities ws ∷ v2 code ∷ v3 code ∷ v4 arities code ∷ v5 (opened ws) arities code ∷ v6 (slice_index arities predicate) arities code ∷ v7 key code ∷ [])
