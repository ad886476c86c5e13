-- One field's step of the reader.
use Rattle.std.specs.Prelude.{ℕ, ◌+◌, ◌-◌, cond, List, Ok, Err, Result, ◌==◌, nat_lt}
use Rattle.lines.specs.declared.faults.LineFault.{LineFault}
use Rattle.lines.specs.declared.faults.LineFault.TheVariants.{Variable, Heavy}
use Rattle.lines.specs.declared.reader.Awaited.{Awaited}
use Rattle.horn.specs.Notation.{Word, name, structure, variable, arity}
use Rattle.horn.specs.Weights.{line_weight_limit}
use Rattle.lines.specs.Lines.{cost, check}

abbrev pub check_at : Awaited → ℕ → List (List ℕ) → Result ℕ LineFault
check_at s p fs = check s.goals s.need s.price s.weight p fs

abbrev pub counted : ℕ → Awaited → Result Awaited LineFault
counted p s = cond (nat_lt line_weight_limit s.weight) (Err (Heavy p)) (Ok s)

abbrev pub as_goal : Awaited → Word → Awaited
as_goal s x = record { goals = s.goals - 1; need = arity x; price = 1; weight = s.weight + s.price }

abbrev pub as_argument : Awaited → Word → Awaited
as_argument s x = record { goals = s.goals; need = arity x + (s.need - 1); price = s.price; weight = s.weight + cost x }

abbrev pub goal_step : Awaited → ℕ → Word → Result Awaited LineFault
goal_step s p (name f) = counted p (as_goal s (name f))
goal_step s p (structure f n) = counted p (as_goal s (structure f n))
goal_step s p (variable v) = Err (Variable p)

abbrev pub step : Awaited → ℕ → Word → Result Awaited LineFault
step s p x = cond (s.need == 0) (goal_step s p x) (counted p (as_argument s x))
