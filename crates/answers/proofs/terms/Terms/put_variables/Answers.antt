use Rattle.std.proofs.Common.{◌<◌, [], length, get_or, drop, refl, rules}
use Rattle.answers.specs.declared.variable.Variable.{Variable}
use Rattle.answers.specs.Streams.{told, told_one}
use Rattle.answers.proofs.ShowLaws.{partly_none, partly_next, partly_more, partly_all}
use Rattle.answers.proofs.TakeLaws.{puts_none, puts_stop, puts_then, puts_same, refused}
use Rattle.answers.proofs.terms.Terms.put_variables.Goals as goal

abbrev zeros : Variable
zeros = record { start = 0; len = 0; cell = 0 }

pub loop-v-init : goal.loop-v-init
loop-v-init g c = λ ρ st. partly_none c.args.line.now ρ c.args.variables.now [] _ _ _ (puts_none c.args.sink.now c.args.out.now) c.new-scratch.ensures

pub returns-in_err-put_variable : goal.returns-in_err-put_variable
returns-in_err-put_variable g c =
    let i = c.loop-v.v-index in
    let lt : i < length c.args.variables.now = search rules in
    λ ρ st.
    let m = c.loop-v.invariant ρ st in
    puts_then (told c.args.line.now ρ (drop i c.args.variables.now) m.vs) m.bytes m.held
    (puts_stop _ (partly_next c.args.line.now ρ c.args.variables.now [] i zeros _ _ _ m lt) (refused c.from_residual.result c.from_residual.ensures.0) (c.in_err-put_variable.ensures m.vs ρ m.numbered st).0)

pub loop-v-preserved : goal.loop-v-preserved
loop-v-preserved g c =
    let i = c.loop-v.v-index in
    let lt : i < length c.args.variables.now = search rules in
    λ ρ st.
    let m = c.loop-v.invariant ρ st in
    let p = c.in_ok-put_variable.ensures m.vs ρ m.numbered st in
    partly_more c.args.line.now ρ c.args.variables.now [] i zeros _ _ _ m lt _ _ _
    (puts_then (told_one c.args.line.now ρ (get_or c.args.variables.now i zeros) m.vs) refl m.held p.0) p.1

pub returns : goal.returns
returns g c = λ ρ st.
    let m = c.loop-v.invariant ρ st in
    puts_same (partly_all c.args.line.now ρ c.args.variables.now [] c.loop-v.v-index zeros _ _ _ m (search rules)) m.held
