use Rattle.std.proofs.Common.{◌∷◌, map, Some, None, sym, ap, ◌∙◌, subst, arith}
use Rattle.std.proofs.lemmas.List.{nil_from_length}
use Rattle.cells.specs.Stores.{cells_of}
use Rattle.cells.proofs.GrowthLaws.{grew_none, grew_trans}
use Rattle.code.specs.Words.{decode}
use Rattle.entering.specs.States.{Going, Stuck}
use Rattle.entering.proofs.CheckLaws.{runnable_costs}
use Rattle.entry.specs.Runs.{setting_of, state_of, Reached}
use Rattle.cells.proofs.StoreLaws.{store_fine}
use Rattle.entry.proofs.EndLaws.{answered, reached_none, reached_more, reached_stuck, going_first, told_denied, told_leaves}
use Rattle.entry.proofs.clauses.enter.Goals as goal

pub loop-word-init : goal.loop-word-init
loop-word-init c = record { grew = grew_none _ _; reached = reached_none _ _ }

pub step-requires : goal.step-requires
step-requires c =
    let first = going_first c.args.table.now c.args.code.now c.args.goal (cells_of c.args.store.now) c.new-registers.result c.new-registers.ensures c.requires.clause c.requires.goal
    (store_fine c.args.store.now).closed c.requires.typed c.requires.room in
    subst (λ code. Going (setting_of c.args.table.now c.args.goal) (state_of (cells_of c.loop-word.store) c.loop-word.registers code))
    (ap (map decode) c.in-Some.ensures.cases.0 ∙ ap (λ w. w ∷ map decode c.in-Some.rest.now) (sym c.decode.ensures.value)) (c.loop-word.invariant.reached.stepped first).going

pub returns-in_err-left-clause-grew : goal.returns-in_err-left-clause-grew
returns-in_err-left-clause-grew c = grew_trans c.loop-word.invariant.grew c.step.ensures.grew

pub returns-in_err-left-clause-result : goal.returns-in_err-left-clause-result
returns-in_err-left-clause-result c =
    let k = setting_of c.args.table.now c.args.goal in
    let closed = (store_fine c.args.store.now).closed in
    let first = going_first c.args.table.now c.args.code.now c.args.goal (cells_of c.args.store.now) c.new-registers.result c.new-registers.ensures c.requires.clause c.requires.goal
    closed c.requires.typed c.requires.room in
    let stuck = answered _ _ c.step.result None c.in_err-left.ensures.value c.step.ensures.result in
    let here : Stuck k (state_of (cells_of c.loop-word.store) c.loop-word.registers (map decode c.loop-word.left.now)) =
    subst (λ code. Stuck k (state_of (cells_of c.loop-word.store) c.loop-word.registers code))
    (sym (ap (map decode) c.in-Some.ensures.cases.0 ∙ ap (λ w. w ∷ map decode c.in-Some.rest.now) (sym c.decode.ensures.value))) stuck in
    rw c.from_residual.ensures
    (told_denied c.args.table.now c.args.code.now c.args.goal (cells_of c.args.store.now) c.new-registers.result c.new-registers.ensures c.requires.clause c.requires.goal
    closed c.requires.typed c.requires.room (reached_stuck _ _ _ c.loop-word.invariant.reached first here))

pub loop-word-preserved : goal.loop-word-preserved
loop-word-preserved c =
    let k = setting_of c.args.table.now c.args.goal in
    let m = state_of (cells_of c.loop-word.store) c.loop-word.registers in
    let m' = state_of (cells_of c.step.new.store) c.step.new.self (map decode c.in_ok-left.left.now) in
    let came = answered _ _ c.step.result (Some c.in_ok-left.left) c.in_ok-left.ensures.value c.step.ensures.result in
    record {
      grew = grew_trans c.loop-word.invariant.grew c.step.ensures.grew;
      reached = reached_more _ _ _ _ c.loop-word.invariant.reached
          (subst (λ code. Reached k (m code) m') (sym (ap (map decode) c.in-Some.ensures.cases.0 ∙ ap (λ w. w ∷ map decode c.in-Some.rest.now) (sym c.decode.ensures.value))) came);
    }

pub returns : goal.returns
returns c =
    let k = setting_of c.args.table.now c.args.goal in
    let leaves = told_leaves c.args.table.now c.args.code.now c.args.goal (cells_of c.args.store.now) c.new-registers.result c.new-registers.ensures c.requires.clause c.requires.goal
    (store_fine c.args.store.now).closed c.requires.typed c.requires.room (cells_of c.loop-word.store) c.loop-word.registers
    (subst (λ ws. Reached k (state_of (cells_of c.args.store.now) c.new-registers.result (map decode c.args.code.now)) (state_of (cells_of c.loop-word.store) c.loop-word.registers (map decode ws)))
    (nil_from_length c.loop-word.left.now c.in_default.ensures.cases) c.loop-word.invariant.reached) in
    record {
      grew = c.loop-word.invariant.grew;
      result = leaves;
      few = omega (arith, leaves.paid, (runnable_costs c.args.table.now c.args.goal.symbol c.args.code.now c.requires.clause).0);
    }
