use Rattle.std.proofs.Common.{◌+◌, map, Some, None, sym, ap, ◌∙◌, rules}
use Rattle.std.proofs.lemmas.List.{at_drop_all, take_rest}
use Rattle.code.specs.Words.{decode}
use Rattle.code.specs.Rules.{key_of, key_by}
use Rattle.code.proofs.KeyLaws.{key_turn}
use Rattle.code.proofs.key.key_of.Goals as goal

pub returns-in-Some : goal.returns-in-Some
returns-in-Some c =
    c.keyed.ensures ∙ c.key_by.ensures ∙ ap (λ l. key_by c.in-Some.o (map decode l)) (take_rest c.args.code.now (c.loop-i.i + 1))
    ∙ sym (key_turn c.args.code.now c.loop-i.i (search rules) c.decode.result c.decode.ensures.value (Some c.in-Some.o) c.in-Some.ensures) ∙ c.loop-i.invariant

pub loop-i-preserved : goal.loop-i-preserved
loop-i-preserved c = sym (key_turn c.args.code.now c.loop-i.i (search rules) c.decode.result c.decode.ensures.value None c.in_default.ensures) ∙ c.loop-i.invariant

pub returns : goal.returns
returns c = sym (at_drop_all (λ l. key_of (map decode l)) c.args.code.now c.loop-i.i (search rules)) ∙ c.loop-i.invariant
