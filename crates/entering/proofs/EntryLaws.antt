-- From the first instruction to the last.
use Rattle.std.proofs.Common.{◌≡◌, ℕ, ◌+◌, ◌-◌, ◌≤◌, List, [], length, get_or, Some, None, Option, sym, ap, ◌∙◌, arith}
use Rattle.horn.specs.Terms.{Term, Terms, var}
use Rattle.horn.proofs.JoinLaws.{join_nil}
use Rattle.heap.specs.Limits.{cell_limit}
use Rattle.heap.specs.Heaps.{Heap, Closed}
use Rattle.heap.specs.Solutions.{Valuation, Sol, span}
use Rattle.heap.proofs.SpanLaws.{span_ext}
use Rattle.code.specs.declared.instructions.Operand.{Operand}
use Rattle.code.specs.declared.instructions.Instruction.{Instruction}
use Rattle.code.specs.Meaning.{Symbols, Terming, goals, Runs, span as term_span}
use Rattle.entering.specs.declared.goal.Goal.{Goal}
use Rattle.entering.specs.Goals.{vals, Names, Typed, Good}
use Rattle.entering.specs.Entries.{Entered, Denied}
use Rattle.entering.specs.Turns.{Slots, Inside, Fits}
use Rattle.entering.specs.Ready.{Ready, dues, calls}
use Rattle.entering.specs.States.{laid, state, Setting, setting, Suits, Steps, Stuck, Going}
use Rattle.entering.proofs.ReadyLaws.{span_is, goals_agree}

-- the arguments of a goal
abbrev args_at : Valuation → ℕ → Terming
args_at ρ b = λ a. ρ (b + (a - 1))

args_span : (ρ : Valuation) (b n : ℕ) → span (args_at ρ b) 1 n ≡ span ρ b n
args_span ρ b n = span_ext (args_at ρ b) ρ 1 b n (λ k h. ap ρ (omega arith))

-- a term for each slot
abbrev slot_term : Option ℕ → Valuation → Term ℕ
slot_term None ρ = var 0
slot_term (Some i) ρ = ρ i

module _ (table : List ℕ) (g : Goal) (room : ℕ) (H : Heap) (S : Slots) (R : List Operand) (code : List Instruction)
    (empty : (y : ℕ) → get_or S y None ≡ None) (good : Good table (length H) g) (ready : Ready table g.arity (length S) (length R) [] code) where
  abbrev entering : Setting
  entering = setting table g.arity g.first room

  none_fits : (ρ : Valuation) (σ : Terming) → Fits S ρ σ
  none_fits ρ σ y i e = let n = empty y in let z : ◌≡◌ {A = ℕ} 0 1 = cc in absurd (omega arith)

  pub none_inside : Inside S H
  none_inside y i e = let n = empty y in let z : ◌≡◌ {A = ℕ} 0 1 = cc in absurd (omega arith)

  abbrev pub going_start : Closed H → Typed table H → length H + dues code ≤ cell_limit → calls code ≤ room → Going entering (state H S R [] code)
  going_start closed typed cells goals = record {
    stands = record { closed = closed; typed = typed; inside = none_inside };
    goals_in = tt;
    args_in = good.held;
    put = [];
    takes = λ a i. absurd i;
    ready = ready;
    cells_room = omega arith;
    goals_room = omega arith;
  }

  module _ (s : Symbols) (names : Names s table) where
    size_is : s.arity g.symbol ≡ g.arity
    size_is = names.arity g.symbol ∙ good.size

    first_goals : (σ : Terming) → goals s code σ (laid s R σ) ≡ goals s code σ var
    first_goals σ = goals_agree s table names g.arity (length S) (length R) σ code [] (laid s R σ) var ready (λ b i. absurd i)

    suits_start : (ρ : Valuation) (gs : Terms ℕ) → Sol s.name H ρ → (run : Runs s g.symbol code (span ρ g.first g.arity) gs) → Suits s entering (state H S R [] code) ρ run.0 run.1 gs
    suits_start ρ gs h run = record {
      sol = h;
      args = sym (span_is run.0 1 g.arity) ∙ ap (term_span run.0 1) (sym size_is) ∙ sym run.2;
      fits = none_fits ρ run.1;
      says = run.3.0;
      goal = run.3.1 ∙ sym (first_goals run.1);
    }

    pub entered : (H' : Heap) (S' : Slots) (R' : List Operand) (B : List Goal) → Steps entering (state H S R [] code) (state H' S' R' B []) → Entered s H g code H' B
    entered H' S' R' B steps = record {
      into = λ ρ h.
          let σ : Terming = λ y. slot_term (get_or S' y None) ρ in
          let α : Terming = args_at ρ g.first in
          let r = steps.into s names ρ α σ (vals s ρ B) (record {
            sol = h;
            args = args_span ρ g.first g.arity;
            fits = λ y i e. ap (λ o. slot_term o ρ) e;
            says = tt;
            goal = sym (join_nil (vals s ρ B));
          }) in
          (r.sol, (α, σ, sym (ap (term_span α 1) size_is ∙ span_is α 1 g.arity ∙ args_span ρ g.first g.arity), (r.says, r.goal ∙ first_goals σ)));
      back = λ ρ gs h run.
          let r = steps.back s names ρ run.0 run.1 gs (suits_start ρ gs h run) in
          (r.0, r.1, r.2.sol, sym (join_nil (vals s r.0 B)) ∙ sym r.2.goal);
    }

    pub denied : Stuck entering (state H S R [] code) → Denied s H g code
    denied stuck ρ gs h run = stuck s names ρ run.0 run.1 gs (suits_start ρ gs h run)
