-- Each slot is set once, and read only afterwards.
use Rattle.std.specs.Prelude.{ℕ, zero, suc, ◌<◌, Bool, true, List, [], ◌∷◌, length, slice_set}
use Rattle.symbol_table.specs.Symbols.{Signature, arity_at}
use Rattle.compiler.specs.Filling.{Empty, Filled, Fits, fill}
use Rattle.code.specs.declared.instructions.Instruction.{Instruction}
use Rattle.code.specs.declared.instructions.Instruction.TheVariants.{Allocate, Get, GetStructure, Unify, Put, PutStructure, Set, Call, Proceed}

-- what a word asks of the slots
abbrev pub uses : Instruction → List Bool → Type 0
uses (Get o a) s = Fits o s
uses (GetStructure y f) s = Filled s y
uses (Unify o) s = Fits o s
uses (Put o a) s = Fits o s
uses (Set o) s = Fits o s
uses (Allocate n) s = Unit {0}
uses (PutStructure y f) s = Unit {0}
uses (Call p) s = Unit {0}
uses Proceed s = Unit {0}

-- the slots after it
abbrev pub gives : Instruction → List Bool → List Bool
gives (Get o a) s = fill o s
gives (GetStructure y f) s = s
gives (Unify o) s = fill o s
gives (Put o a) s = fill o s
gives (Set o) s = fill o s
gives (Allocate n) s = s
gives (PutStructure y f) s = s
gives (Call p) s = s
gives Proceed s = s

-- the slot that a word sets later, and after how many words
abbrev pub waits : Signature → Instruction → ℕ
waits sig (PutStructure y f) = arity_at sig f
waits sig (Get o a) = 0
waits sig (GetStructure y f) = 0
waits sig (Unify o) = 0
waits sig (Put o a) = 0
waits sig (Set o) = 0
waits sig (Allocate n) = 0
waits sig (Call p) = 0
waits sig Proceed = 0

abbrev pub due : Instruction → ℕ
due (PutStructure y f) = y
due (Get o a) = 0
due (GetStructure y f) = 0
due (Unify o) = 0
due (Put o a) = 0
due (Set o) = 0
due (Allocate n) = 0
due (Call p) = 0
due Proceed = 0

-- the words after put_structure
abbrev pub Setting : Instruction → Type 0
Setting (Set o) = Unit {0}
Setting (Allocate n) = ⊥
Setting (Get o a) = ⊥
Setting (GetStructure y f) = ⊥
Setting (Unify o) = ⊥
Setting (Put o a) = ⊥
Setting (PutStructure y f) = ⊥
Setting (Call p) = ⊥
Setting Proceed = ⊥

-- From the slots s on, with z due after some words, the code sets each slot that is empty once, and reads none before.
abbrev pub Orderly : Signature → ℕ → ℕ → List Instruction → List Bool → Type 0
Orderly sig zero z [] s = (y : ℕ) → y < length s → Filled s y
Orderly sig (suc k) z [] s = ⊥
Orderly sig zero z (w ∷ ws) s = uses w s × Orderly sig (waits sig w) (due w) ws (gives w s)
Orderly sig (suc zero) z (w ∷ ws) s = Setting w × uses w s × Empty (gives w s) z × Orderly sig zero 0 ws (slice_set (gives w s) z true)
Orderly sig (suc (suc k)) z (w ∷ ws) s = Setting w × uses w s × Orderly sig (suc k) z ws (gives w s)
