-- Rows of instructions.
use Rattle.std.specs.Prelude.{◌≡◌, ℕ, suc, List, [], ◌∷◌}
use Rattle.code.specs.declared.instructions.Operand.{Operand}
use Rattle.code.specs.declared.instructions.Instruction.{Instruction}
use Rattle.code.specs.declared.instructions.Instruction.TheVariants.{Get, Unify, Put, Set}

-- which instructions a row of operands makes
pub data Role : Type 0 where
  Gets : Role
  Unifies : Role
  Puts : Role
  Sets : Role

abbrev pub instruction : Role → Operand → ℕ → Instruction
instruction Gets o a = Get o a
instruction Unifies o a = Unify o
instruction Puts o a = Put o a
instruction Sets o a = Set o

-- the instructions of a row of operands, for the arguments from a on
abbrev pub row : Role → ℕ → List Operand → List Instruction
row r a [] = []
row r a (o ∷ os) = instruction r o a ∷ row r (suc a) os

-- of an operand and an argument there comes the instruction of the role
abbrev pub Makes : Role → (Operand → ℕ → Instruction → Type 0) → Type 0
Makes r comes = (o : Operand) (a : ℕ) (i : Instruction) → comes o a i → i ≡ instruction r o a
