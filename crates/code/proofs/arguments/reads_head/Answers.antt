use Rattle.std.proofs.Common.{◌≤◌, map, sym, ap, ◌∙◌, subst, rules}
use Rattle.std.proofs.lemmas.List.{at_drop_all}
use Rattle.code.specs.Instructions.{got}
use Rattle.code.specs.Words.{decode}
use Rattle.code.specs.Passes.{notes, note_arg, full}
use Rattle.code.proofs.ArgumentLaws.{head_is, arg_at, notes_turn}
use Rattle.code.proofs.arguments.reads_head.Goals as goal

pub note-requires : goal.note-requires
note-requires c = subst (λ x. x ≤ 8) (sym (c.got.ensures ∙ ap got c.decode.ensures.value)) (arg_at got c.args.code.now c.loop-w.w-index c.requires (search rules))

pub loop-w-preserved : goal.loop-w-preserved
loop-w-preserved c = sym (notes_turn got c.args.code.now c.loop-w.w-index c.loop-w.counts c.note.new.counts (search rules) (c.note.ensures ∙ ap (note_arg c.loop-w.counts) (c.got.ensures ∙ ap got c.decode.ensures.value))) ∙ c.loop-w.invariant

pub returns : goal.returns
returns c =
    let code = c.args.code.now in
    c.is_full.ensures
    ∙ ap (full c.args.m) (sym (at_drop_all (λ l. notes got c.loop-w.counts (map decode l)) code c.loop-w.w-index (search rules)) ∙ c.loop-w.invariant)
    ∙ head_is got c.args.m (map decode code) c.requires
