-- What may be taken for granted of the code that is left while it runs: no slot is used before it is filled, none is filled twice,
-- a structure's instructions follow it, and a call finds its arguments put.
use Rattle.std.specs.Prelude.{◌≡◌, ℕ, zero, suc, ◌<◌, ◌≤◌, ◌⊎◌, List, [], ◌∷◌}
use Rattle.code.specs.declared.instructions.Operand.{Operand}
use Rattle.code.specs.declared.instructions.Operand.TheVariants.{Fresh, Known, Constant}
use Rattle.code.specs.declared.instructions.Instruction.{Instruction}
use Rattle.code.specs.declared.instructions.Instruction.TheVariants.{Allocate, Get, GetStructure, Unify, Put, PutStructure, Set, Call, Proceed}

abbrev pub In : ℕ → List ℕ → Type 0
In y [] = ⊥
In y (x ∷ D) = (y ≡ x) ⊎ In y D

-- of m slots those of D are filled: one is filled once, and used after that
abbrev pub Takes : ℕ → List ℕ → Operand → Type 0
Takes m D (Fresh y) = (y < m) × (In y D → ⊥)
Takes m D (Known y) = (y < m) × In y D
Takes m D (Constant c) = Unit {0}

abbrev pub fills : Operand → List ℕ → List ℕ
fills (Fresh y) D = y ∷ D
fills (Known y) D = D
fills (Constant c) D = D

-- an argument of a structure
abbrev pub Piece : Instruction → Type 0
Piece (Allocate n) = ⊥
Piece (Get o a) = ⊥
Piece (GetStructure y f) = ⊥
Piece (Unify o) = Unit {0}
Piece (Put o a) = ⊥
Piece (PutStructure y f) = ⊥
Piece (Set o) = Unit {0}
Piece (Call p) = ⊥
Piece Proceed = ⊥

abbrev pub Pieces : ℕ → List Instruction → Type 0
Pieces zero code = Unit {0}
Pieces (suc n) [] = ⊥
Pieces (suc n) (i ∷ code) = Piece i × Pieces n code

-- the operand does not use the slot x
abbrev pub Shuns : ℕ → Operand → Type 0
Shuns x (Fresh y) = Unit {0}
Shuns x (Known y) = y ≡ x → ⊥
Shuns x (Constant c) = Unit {0}

abbrev pub piece_of : Instruction → Operand
piece_of (Unify o) = o
piece_of (Set o) = o
piece_of (Allocate n) = Constant 0
piece_of (Get o a) = Constant 0
piece_of (GetStructure y f) = Constant 0
piece_of (Put o a) = Constant 0
piece_of (PutStructure y f) = Constant 0
piece_of (Call p) = Constant 0
piece_of Proceed = Constant 0

-- the next k instructions do not use the slot x in a structure
abbrev pub Avoids : ℕ → ℕ → List Instruction → Type 0
Avoids x zero code = Unit {0}
Avoids x (suc k) [] = Unit {0}
Avoids x (suc k) (i ∷ code) = Shuns x (piece_of i) × Avoids x k code

-- with n arguments of the goal, m slots, those of D filled, and of the arguments below r those of A put since the last call
abbrev pub Ready : (ℕ → ℕ) → ℕ → ℕ → ℕ → List ℕ → List ℕ → List Instruction → Type 0
Ready arity n m r D A [] = Unit {0}
Ready arity n m r D A (Get o a ∷ code) = (0 < a) × (a ≤ n) × Takes m D o × Ready arity n m r (fills o D) A code
Ready arity n m r D A (GetStructure y f ∷ code) = (y < m) × In y D × Pieces (arity f) code × Ready arity n m r D A code
Ready arity n m r D A (Unify o ∷ code) = Takes m D o × Ready arity n m r (fills o D) A code
Ready arity n m r D A (Set o ∷ code) = Takes m D o × Ready arity n m r (fills o D) A code
Ready arity n m r D A (Put o a ∷ code) = (a < r) × Takes m D o × Ready arity n m r (fills o D) (a ∷ A) code
Ready arity n m r D A (PutStructure y f ∷ code) = (y < m) × (In y D → ⊥) × Pieces (arity f) code × Avoids y (arity f) code × Ready arity n m r (y ∷ D) A code
Ready arity n m r D A (Call p ∷ code) = (arity p < r) × ((a : ℕ) → 0 < a → a ≤ arity p → In a A) × Ready arity n m r D [] code
Ready arity n m r D A (Allocate k ∷ code) = Ready arity n m r D A code
Ready arity n m r D A (Proceed ∷ code) = Ready arity n m r D A code
