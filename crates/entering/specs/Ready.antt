-- What the runner needs of the code that is left, and what cells it may cost. `Ready` of code follows the slots that are filled, and knows no table:
-- here symbols and constants are of the table, and the arguments that were put are counted.
use Rattle.std.specs.Prelude.{◌≡◌, ℕ, zero, suc, ◌+◌, ◌<◌, ◌≤◌, ◌⊎◌, List, [], ◌∷◌, length, slice_index}
use Rattle.code.specs.declared.instructions.Operand.{Operand}
use Rattle.code.specs.declared.instructions.Operand.TheVariants.{Constant}
use Rattle.code.specs.declared.instructions.Instruction.{Instruction}
use Rattle.code.specs.declared.instructions.Instruction.TheVariants.{Allocate, Get, GetStructure, Unify, Put, PutStructure, Set, Call, Proceed}
use Rattle.entering.specs.Turns.{Takes}

abbrev pub In : ℕ → List ℕ → Type 0
In a [] = ⊥
In a (x ∷ A) = (a ≡ x) ⊎ In a A

-- the operand of a unify or a set instruction
abbrev pub operand_of : Instruction → Operand
operand_of (Unify o) = o
operand_of (Set o) = o
operand_of (Allocate n) = Constant 0
operand_of (Get o a) = Constant 0
operand_of (GetStructure y f) = Constant 0
operand_of (Put o a) = Constant 0
operand_of (PutStructure y f) = Constant 0
operand_of (Call p) = Constant 0
operand_of Proceed = Constant 0

abbrev pub Piece : Instruction → Type 0
Piece (Unify o) = Unit {0}
Piece (Set o) = Unit {0}
Piece (Allocate n) = ⊥
Piece (Get o a) = ⊥
Piece (GetStructure y f) = ⊥
Piece (Put o a) = ⊥
Piece (PutStructure y f) = ⊥
Piece (Call p) = ⊥
Piece Proceed = ⊥

-- the code begins with n of them
abbrev pub Pieces : ℕ → List Instruction → Type 0
Pieces zero code = Unit {0}
Pieces (suc n) [] = ⊥
Pieces (suc n) (w ∷ code) = Piece w × Pieces n code

-- n arguments of the goal, m slots, r arguments to put, of which those of A have been put since the last call
abbrev pub Ready : List ℕ → ℕ → ℕ → ℕ → List ℕ → List Instruction → Type 0
Ready table n m r A [] = Unit {0}
Ready table n m r A (Get o a ∷ code) = (0 < a) × (a ≤ n) × Takes table m o × Ready table n m r A code
Ready table n m r A (GetStructure y f ∷ code) = (y < m) × (f < length table) × Pieces (slice_index table f) code × Ready table n m r A code
Ready table n m r A (PutStructure y f ∷ code) = (y < m) × (f < length table) × Pieces (slice_index table f) code × Ready table n m r A code
Ready table n m r A (Unify o ∷ code) = Takes table m o × Ready table n m r A code
Ready table n m r A (Set o ∷ code) = Takes table m o × Ready table n m r A code
Ready table n m r A (Put o a ∷ code) = (a < r) × Takes table m o × Ready table n m r (a ∷ A) code
Ready table n m r A (Call p ∷ code) =
    (p < length table) × (slice_index table p < r) × (slice_index table p ≤ length A) × ((a : ℕ) → 0 < a → a ≤ slice_index table p → In a A) × Ready table n m r [] code
Ready table n m r A (Allocate k ∷ code) = Ready table n m r A code
Ready table n m r A (Proceed ∷ code) = Ready table n m r A code

-- the cells that an instruction may make, or pay for a later call
abbrev pub price : Instruction → ℕ
price (Allocate n) = 0
price (Get o a) = 1
price (GetStructure y f) = 1
price (Unify o) = 1
price (Put o a) = 1
price (PutStructure y f) = 1
price (Set o) = 1
price (Call p) = 0
price Proceed = 0

abbrev pub dues : List Instruction → ℕ
dues [] = 0
dues (w ∷ code) = price w + dues code

-- the goals that it leaves
abbrev pub leaves : Instruction → ℕ
leaves (Allocate n) = 0
leaves (Get o a) = 0
leaves (GetStructure y f) = 0
leaves (Unify o) = 0
leaves (Put o a) = 0
leaves (PutStructure y f) = 0
leaves (Set o) = 0
leaves (Call p) = 1
leaves Proceed = 0

abbrev pub calls : List Instruction → ℕ
calls [] = 0
calls (w ∷ code) = leaves w + calls code
