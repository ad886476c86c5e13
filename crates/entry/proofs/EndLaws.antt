-- From instruction to instruction, and to the end.
use Rattle.std.proofs.Common.{◌≡◌, ℕ, zero, suc, ◌+◌, ◌≤◌, List, [], map, length, get_or, replicate, None, Option, MatchOption, Result, Ok, Err, MatchResult, sym, refl, subst, arith}
use Rattle.std.specs.Result.{result_ok}
use Rattle.heap.specs.Limits.{cell_limit}
use Rattle.heap.specs.Heaps.{Heap, Closed}
use Rattle.code.specs.Limits.{call_limit}
use Rattle.code.specs.Words.{decode}
use Rattle.code.specs.Rules.{opened}
use Rattle.code.specs.Meaning.{Symbols}
use Rattle.entering.specs.declared.goal.Goal.{Goal}
use Rattle.entering.specs.Goals.{Names, Typed, Good}
use Rattle.entering.specs.Entries.{Denied}
use Rattle.entering.specs.Ready.{Ready}
use Rattle.entering.specs.Checks.{Runnable}
use Rattle.entering.specs.States.{State, state, Setting, Going, Stuck}
use Rattle.entering.proofs.ReadyLaws.{ready_more}
use Rattle.entering.proofs.CheckLaws.{runnable_ready, runnable_costs}
use Rattle.entering.proofs.StepLaws.{stepped_none, stepped_trans, stuck_later}
use Rattle.entering.proofs.EntryLaws.{going_start, entered, denied}
use Rattle.entry.specs.declared.steps.Registers.{Registers}
use Rattle.entry.specs.Runs.{Blank, setting_of, state_of, Reached, Leaves}

-- what is said of a result, of it as an option
as_option : {T E : Type 0} (P : T → Type 0) (Q : Type 0) (r : Result T E) → MatchResult r P (λ _. Q) → MatchOption (result_ok r) Q P
as_option P Q (Ok x) h = h
as_option P Q (Err x) h = h

pub answered : {T E : Type 0} (P : T → Type 0) (Q : Type 0) (r : Result T E) (o : Option T) → o ≡ result_ok r → MatchResult r P (λ _. Q) → MatchOption o Q P
answered P Q r o e h = subst (λ z. MatchOption z Q P) (sym e) (as_option P Q r h)

-- slots that have no cells
pub no_slots : (n y : ℕ) → get_or {A = Option ℕ} (replicate n None) y None ≡ None
no_slots zero y = refl
no_slots (suc n) zero = refl
no_slots (suc n) (suc y) = no_slots n y

pub reached_none : (k : Setting) (m : State) → Reached k m m
reached_none k m = record { stepped = stepped_none k m }

pub reached_more : (k : Setting) (m m' m'' : State) → Reached k m m' → Reached k m' m'' → Reached k m m''
reached_more k m m' m'' r a = record { stepped = λ go. stepped_trans go (r.stepped go) (a.stepped (r.stepped go).going) }

pub reached_stuck : (k : Setting) (m m' : State) → Reached k m m' → Going k m → Stuck k m' → Stuck k m
reached_stuck k m m' r go s = stuck_later (r.stepped go).steps s

-- the whole clause
module _ (table words : List ℕ) (g : Goal) (H : Heap) (r : Registers) (blank : Blank r) (clause : Runnable table g.symbol words) (good : Good table (length H) g) (closed : Closed H) (typed : Typed table H)
    (room : length H + length words ≤ cell_limit + 2) where
  ready : Ready table g.arity (length r.slots) (length r.puts) [] (map decode words)
  ready = ready_more table g.arity (opened words) (length r.slots) (length r.puts) (omega (arith, blank.opened, clause.formed.few)) [] (map decode words)
      (runnable_ready table g.symbol words clause g.arity (length r.puts) good.size (omega (arith, blank.puts)))

  abbrev first : Going (setting_of table g) (state H r.slots r.puts [] (map decode words))
  first =
      let costs = runnable_costs table g.symbol words clause in
      going_start table g call_limit H r.slots r.puts (map decode words) blank.slots good ready closed typed (omega (arith, costs.0, room)) costs.1

  pub going_first : Going (setting_of table g) (state_of H r (map decode words))
  going_first = subst (λ B. Going (setting_of table g) (state H r.slots r.puts B (map decode words))) (sym blank.goals) first

  pub told_denied : Stuck (setting_of table g) (state_of H r (map decode words)) → (s : Symbols) → Names s table → Denied s H g (map decode words)
  told_denied h s names =
      denied table g call_limit H r.slots r.puts (map decode words) blank.slots good ready s names (subst (λ B. Stuck (setting_of table g) (state H r.slots r.puts B (map decode words))) blank.goals h)

  pub told_leaves : (H' : Heap) (r' : Registers) → Reached (setting_of table g) (state_of H r (map decode words)) (state_of H' r' []) → Leaves table H g words H' r'.goals.items
  told_leaves H' r' h =
      let q = (subst (λ B. Reached (setting_of table g) (state H r.slots r.puts B (map decode words)) (state_of H' r' [])) blank.goals h).stepped first in
      record {
        few = omega (arith, q.going.goals_room);
        typed = q.going.stands.typed;
        goods = q.going.goals_in;
        paid = omega (arith, q.paid);
        entered = λ s names. entered table g call_limit H r.slots r.puts (map decode words) blank.slots good ready s names H' r'.slots r'.puts r'.goals.items q.steps;
      }
