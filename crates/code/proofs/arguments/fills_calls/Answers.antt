use Rattle.std.proofs.Common.{◌≤◌, map, Some, None, sym, ◌∙◌, subst, rules}
use Rattle.code.specs.Instructions.{put}
use Rattle.code.specs.Words.{decode}
use Rattle.code.specs.Passes.{call_next}
use Rattle.code.proofs.Turns.{walk_turn, walk_end}
use Rattle.code.proofs.ArgumentLaws.{done, calls_start, arg_at}
use Rattle.code.proofs.arguments.fills_calls.Goals as goal

pub count_word-requires : goal.count_word-requires
count_word-requires c = subst (λ x. put x ≤ 8) (sym c.decode.ensures.value) (arg_at put c.args.code.now c.loop-w.w-index c.requires (search rules))

pub returns-in_default : goal.returns-in_default
returns-in_default c =
    let ar = c.args.arities.now in
    sym (walk_turn (call_next ar) done c.loop-w.counts c.args.code.now c.loop-w.w-index c.decode.result None (search rules) c.decode.ensures.value c.in_default.ensures)
    ∙ c.loop-w.invariant ∙ calls_start ar (map decode c.args.code.now) c.requires

pub loop-w-preserved : goal.loop-w-preserved
loop-w-preserved c =
    let ar = c.args.arities.now in
    sym (walk_turn (call_next ar) done c.loop-w.counts c.args.code.now c.loop-w.w-index c.decode.result (Some c.in-Some.next) (search rules) c.decode.ensures.value c.in-Some.ensures)
    ∙ c.loop-w.invariant

pub returns : goal.returns
returns c =
    let ar = c.args.arities.now in
    sym (walk_end (call_next ar) done c.loop-w.counts c.args.code.now c.loop-w.w-index (search rules))
    ∙ c.loop-w.invariant ∙ calls_start ar (map decode c.args.code.now) c.requires
