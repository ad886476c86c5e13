-- The order of instructions in a clause.
use Rattle.std.specs.Prelude.{◌≡◌, ℕ, List, [], ◌∷◌, ◌++◌, length}
use Rattle.symbol_table.specs.Symbols.{Signature, arity_at}
use Rattle.compiler.specs.Rows.{row}
use Rattle.code.specs.declared.instructions.Operand.{Operand}
use Rattle.code.specs.declared.instructions.Instruction.{Instruction}
use Rattle.code.specs.declared.instructions.Instruction.TheVariants.{Allocate, GetStructure, PutStructure, Call, Proceed}
use Rattle.compiler.specs.Rows.{Gets, Unifies, Puts, Sets}

-- How far a clause has come: the start and the arguments of its head, of which there are n, their structures, between goals, in a goal, the end.
pub data Phase : Type 0 where
  start : ℕ → Phase
  top : ℕ → Phase
  inside : Phase
  between : Phase
  goal : Phase
  over : Phase

-- Words that lead from one phase to another.
pub data Script (sig : Signature) : Phase → Phase → List Instruction → Type 0 where
  stay : {a : Phase} → Script sig a a []
  next : {a b c : Phase} {u v : List Instruction} → Script sig a b u → Script sig b c v → Script sig a c (u ++ v)
  allocates : {n m : ℕ} → Script sig (start n) (top n) (Allocate m ∷ [])
  gets : {n : ℕ} (os : List Operand) → length os ≡ n → Script sig (top n) inside (row Gets 1 os)
  takes : {y f : ℕ} (os : List Operand) → length os ≡ arity_at sig f → Script sig inside inside (GetStructure y f ∷ row Unifies 1 os)
  turns : Script sig inside between []
  begins : Script sig between goal []
  builds : {y f : ℕ} (os : List Operand) → length os ≡ arity_at sig f → Script sig goal goal (PutStructure y f ∷ row Sets 1 os)
  calls : (p : ℕ) (os : List Operand) → length os ≡ arity_at sig p → Script sig goal between (row Puts 1 os ++ Call p ∷ [])
  ends : Script sig between over (Proceed ∷ [])
