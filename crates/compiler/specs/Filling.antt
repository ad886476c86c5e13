-- Slots as they are filled: each once, and used only afterwards.
use Rattle.std.specs.Prelude.{◌≡◌, ℕ, ◌<◌, ◌≤◌, Bool, true, false, List, [], ◌∷◌, slice_index_or, slice_set}
use Rattle.compiler.specs.Places.{Plan}
use Rattle.compiler.specs.declared.items.Item.{Item}
use Rattle.compiler.specs.declared.items.Item.TheVariants.{Atom, Structure, Variable}
use Rattle.code.specs.declared.instructions.Operand.{Operand}
use Rattle.code.specs.declared.instructions.Operand.TheVariants.{Fresh, Known, Constant}

-- the slot y is one of s, and empty; the slot y has been filled
abbrev pub Empty : List Bool → ℕ → Type 0
Empty s y = slice_index_or s y true ≡ false

abbrev pub Filled : List Bool → ℕ → Type 0
Filled s y = slice_index_or s y false ≡ true

-- a word may fill an empty slot, and use a filled one
abbrev pub Fits : Operand → List Bool → Type 0
Fits (Fresh y) s = Empty s y
Fits (Known y) s = Filled s y
Fits (Constant c) s = Unit {0}

abbrev pub fill : Operand → List Bool → List Bool
fill (Fresh y) s = slice_set s y true
fill (Known y) s = s
fill (Constant c) s = s

-- the operands take the slots s to s'
pub data Fills : List Operand → List Bool → List Bool → Type 0 where
  still : {s : List Bool} → Fills [] s s
  then : {o : Operand} {os : List Operand} {s s' : List Bool} → Fits o s → Fills os (fill o s) s' → Fills (o ∷ os) s s'

-- the slot of what stands at i, if it has one, has been filled
abbrev pub Marked : Item → ℕ → List Bool → Type 0
Marked (Atom c) y s = Unit {0}
Marked (Structure f) y s = Filled s y
Marked (Variable v) y s = Filled s v

abbrev pub MarkedAt : Plan → List Bool → ℕ → Type 0
MarkedAt p s i = Marked (p.tok i) (p.slot i) s

-- the slot of what stands at i, if it has one, is not y
abbrev pub Off : Item → ℕ → ℕ → Type 0
Off (Atom c) z y = Unit {0}
Off (Structure f) z y = z ≡ y → ⊥
Off (Variable v) z y = v ≡ y → ⊥

abbrev pub OffAt : Plan → ℕ → ℕ → Type 0
OffAt p y i = Off (p.tok i) (p.slot i) y

-- the structures from `at` up to `end` have empty slots
abbrev pub Ahead : Plan → List Bool → ℕ → ℕ → Type 0
Ahead p s at end = (i f : ℕ) → at ≤ i → i < end → p.tok i ≡ Structure f → Empty s (p.slot i)
