-- Code that is run.
use Rattle.std.specs.Prelude.{◌≡◌, ℕ, ◌+◌, ◌<◌, ◌≤◌, List, [], map, length, None, slice_index_or}
use Rattle.std.specs.List.{AllByRecursion}
use Rattle.heap.specs.Heaps.{Heap}
use Rattle.code.specs.Limits.{slot_limit, argument_limit, call_limit}
use Rattle.code.specs.Words.{decode}
use Rattle.code.specs.Meaning.{Symbols}
use Rattle.code.specs.declared.instructions.Instruction.{Instruction}
use Rattle.entering.specs.declared.goal.Goal.{Goal}
use Rattle.entering.specs.Goals.{Names, Typed, Good}
use Rattle.entering.specs.Entries.{Entered}
use Rattle.entering.specs.Ready.{dues}
use Rattle.entering.specs.States.{State, state, Setting, setting, Going, Stepped}
use Rattle.entry.specs.declared.steps.Registers.{Registers}

-- registers that have nothing yet
pub record Blank (r : Registers) : Type 0 where
  pub slots : (y : ℕ) → slice_index_or r.slots y None ≡ None
  pub opened : length r.slots ≡ slot_limit
  pub puts : argument_limit < length r.puts
  pub goals : r.goals.items ≡ []

-- what stays while a clause is entered with the goal
abbrev pub setting_of : List ℕ → Goal → Setting
setting_of table g = setting table g.arity g.first call_limit

-- the cells, the registers and the code that is left
abbrev pub state_of : Heap → Registers → List Instruction → State
state_of H r code = state H r.slots r.puts r.goals.items code

-- the code has been run from m to m'
pub record Reached (k : Setting) (m m' : State) : Type 0 where
  pub stepped : (go : Going k m) → Stepped k m m' go

-- the clause fits, and leaves the goals B
pub record Leaves (table : List ℕ) (H : Heap) (g : Goal) (words : List ℕ) (H' : Heap) (B : List Goal) : Type 0 where
  pub few : length B ≤ call_limit
  pub typed : Typed table H'
  pub goods : AllByRecursion (Good table (length H')) B
  pub paid : length H' ≤ length H + dues (map decode words)
  pub entered : (s : Symbols) → Names s table → Entered s H g (map decode words) H' B
