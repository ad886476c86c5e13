-- A clause that is being entered.
use Rattle.std.specs.Prelude.{◌≡◌, ℕ, ◌+◌, ◌<◌, ◌≤◌, List, length, slice_index_or}
use Rattle.std.specs.List.{AllByRecursion}
use Rattle.horn.specs.Terms.{Terms, join}
use Rattle.heap.specs.Limits.{cell_limit}
use Rattle.heap.specs.Heaps.{Heap}
use Rattle.heap.specs.Solutions.{Valuation, Sol, span}
use Rattle.code.specs.declared.instructions.Operand.{Operand}
use Rattle.code.specs.declared.instructions.Operand.TheVariants.{Fresh}
use Rattle.code.specs.declared.instructions.Instruction.{Instruction}
use Rattle.code.specs.Meaning.{Symbols, Terming, given, Says, goals}
use Rattle.entering.specs.declared.goal.Goal.{Goal}
use Rattle.entering.specs.Goals.{vals, Names, Good}
use Rattle.entering.specs.Entries.{Same}
use Rattle.entering.specs.Turns.{Slots, Fits, Stands, Takes}
use Rattle.entering.specs.Ready.{In, Ready, dues, calls}

-- what was put into the arguments
abbrev pub laid : Symbols → List Operand → Terming → Terming
laid s R σ = λ a. given s (slice_index_or R a (Fresh 0)) σ

-- the cells, the slots, what was put into the arguments, the goals left so far and the code that is left
pub record State : Type 0 where
  pub heap : Heap
  pub slots : Slots
  pub puts : List Operand
  pub left : List Goal
  pub code : List Instruction

abbrev pub state : Heap → Slots → List Operand → List Goal → List Instruction → State
state H S R G code = record { heap = H; slots = S; puts = R; left = G; code = code }

-- what stays: the arities of the symbols, the goal's arguments, n cells from the first on, and the room for goals
pub record Setting : Type 0 where
  pub table : List ℕ
  pub args : ℕ
  pub first : ℕ
  pub room : ℕ

abbrev pub setting : List ℕ → ℕ → ℕ → ℕ → Setting
setting table n b room = record { table = table; args = n; first = b; room = room }

-- the cells ρ, the arguments α, the slots σ and the goals gs have what the state holds and what the code left says
pub record Suits (s : Symbols) (k : Setting) (m : State) (ρ : Valuation) (α σ : Terming) (gs : Terms ℕ) : Type 0 where
  pub sol : Sol s.name m.heap ρ
  pub args : span α 1 k.args ≡ span ρ k.first k.args
  pub fits : Fits m.slots ρ σ
  pub says : Says s m.code α σ
  pub goal : gs ≡ join (vals s ρ m.left) (goals s m.code σ (laid s m.puts σ))

-- from m to m' nothing is lost, and nothing is gained but the terms of new cells
pub record Steps (k : Setting) (m m' : State) : Type 0 where
  pub longer : length m.heap ≤ length m'.heap
  pub into : (s : Symbols) → Names s k.table → (ρ : Valuation) (α σ : Terming) (gs : Terms ℕ) → Suits s k m' ρ α σ gs → Suits s k m ρ α σ gs
  pub back : (s : Symbols) → Names s k.table → (ρ : Valuation) (α σ : Terming) (gs : Terms ℕ) → Suits s k m ρ α σ gs
      → (τ : Valuation) × Same (length m.heap) ρ τ × Suits s k m' τ α σ gs

-- nothing suits the state
abbrev pub Stuck : Setting → State → Type 0
Stuck k m = (s : Symbols) → Names s k.table → (ρ : Valuation) (α σ : Terming) (gs : Terms ℕ) → Suits s k m ρ α σ gs → ⊥

-- the state is one to go on from
pub record Going (k : Setting) (m : State) : Type 0 where
  pub stands : Stands k.table m.heap m.slots
  pub goals_in : AllByRecursion (Good k.table (length m.heap)) m.left
  pub args_in : (j : ℕ) → j < k.args → k.first + j < length m.heap
  -- the arguments put since the last call
  pub put : List ℕ
  pub takes : (a : ℕ) → In a put → Takes k.table (length m.slots) (slice_index_or m.puts a (Fresh 0))
  pub ready : Ready k.table k.args (length m.slots) (length m.puts) put m.code
  pub cells_room : length m.heap + length put + dues m.code ≤ cell_limit
  pub goals_room : length m.left + calls m.code ≤ k.room

-- from m to m', where what was done is paid by the code that is no longer left
pub record Stepped (k : Setting) (m m' : State) (go : Going k m) : Type 0 where
  pub going : Going k m'
  pub steps : Steps k m m'
  pub paid : length m'.heap + length going.put + dues m'.code ≤ length m.heap + length go.put + dues m.code
