use Rattle.std.proofs.Common.{map, Some, None, sym, ◌∙◌, rules}
use Rattle.std.proofs.lemmas.List.{at_drop_all}
use Rattle.code.specs.Words.{decode}
use Rattle.code.specs.Rules.{structure_on}
use Rattle.code.proofs.KeyLaws.{on_turn}
use Rattle.code.proofs.key.structure_on.Goals as goal

pub returns-in-Some : goal.returns-in-Some
returns-in-Some c = sym (on_turn c.args.code.now c.loop-w.w-index (search rules) c.decode.result c.decode.ensures.value c.args.slot (Some c.in-Some.f) c.in-Some.ensures) ∙ c.loop-w.invariant

pub loop-w-preserved : goal.loop-w-preserved
loop-w-preserved c = sym (on_turn c.args.code.now c.loop-w.w-index (search rules) c.decode.result c.decode.ensures.value c.args.slot None c.in_default.ensures) ∙ c.loop-w.invariant

pub returns : goal.returns
returns c = sym (at_drop_all (λ l. structure_on c.args.slot (map decode l)) c.args.code.now c.loop-w.w-index (search rules)) ∙ c.loop-w.invariant
