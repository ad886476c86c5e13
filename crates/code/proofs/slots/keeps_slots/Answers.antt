use Rattle.std.proofs.Common.{◌≡◌, ℕ, ◌+◌, true, false, List, map, length, drop, Option, sym, refl, ap, ◌∙◌, ap₂, rules}
use Rattle.std.proofs.lemmas.List.{at_drop_all}
use Rattle.code.specs.Instructions.{sets}
use Rattle.code.specs.Words.{decode}
use Rattle.code.specs.Rules.{builds}
use Rattle.code.specs.Passes.{can_read, can_set, marked, slot_pass}
use Rattle.code.proofs.SlotLaws.{pass_turn, slots_are, marked_length}
use Rattle.code.proofs.slots.keeps_slots.Goals.{then-not-can_read-via-then-not-can_read, then-not-can_read-via-else-not-can_read+then-not-can_set}
use Rattle.code.proofs.slots.keeps_slots.Goals as goal

pub returns-then-not-can_read : goal.returns-then-not-can_read
returns-then-not-can_read c =
    let T = c.loop-i.since in
    let code = c.args.code.now in
    let ar = c.args.arities.now in
    let h = c.loop-i.invariant.0 ∙ slots_are c.args.slots ar (map decode code) c.requires.few c.requires.inside in
    elim c.then-not-can_read.branch [
      | then-not-can_read-via-then-not-can_read w ↦
          sym (pass_turn c.args.slots ar code c.loop-i.i T c.decode-word.result false _ (search rules) c.decode-word.ensures.value (w.if-not-can_read.ensures ∙ ap (can_read T c.loop-i.i) c.reads.ensures) refl) ∙ h
      | then-not-can_read-via-else-not-can_read+then-not-can_set w ↦
          sym (pass_turn c.args.slots ar code c.loop-i.i T c.decode-word.result true false (search rules) c.decode-word.ensures.value (w.if-not-can_read.ensures ∙ ap (can_read T c.loop-i.i) c.reads.ensures) (w.if-not-can_set.ensures ∙ ap (can_set T) w.sets.ensures)) ∙ h
    ]

pub loop-i-preserved : goal.loop-i-preserved
loop-i-preserved c =
    let T = c.loop-i.since in
    let i = c.loop-i.i in
    let code = c.args.code.now in
    let ar = c.args.arities.now in
    let x = c.decode-word.result in
    let is : c.mark.new.since ≡ marked T (sets x) (i + 1 + builds ar x) =
    c.mark.ensures ∙ ap₂ (λ (o : Option ℕ) (b : ℕ). marked T o (i + 1 + b)) c.sets-in-loop-i.ensures c.words_built.ensures.value in (
      ap (λ (l : List (Option ℕ)). slot_pass c.args.slots ar (i + 1) l (map decode (drop (i + 1) code))) is
          ∙ sym (pass_turn c.args.slots ar code i T x true true (search rules) c.decode-word.ensures.value (c.if-not-can_read.ensures ∙ ap (can_read T i) c.reads.ensures) (c.if-not-can_set.ensures ∙ ap (can_set T) c.sets.ensures))
          ∙ c.loop-i.invariant.0,
      ap length is ∙ marked_length T (sets x) (i + 1 + builds ar x) ∙ c.loop-i.invariant.1,
    )

pub returns : goal.returns
returns c =
    let T = c.loop-i.since in
    let code = c.args.code.now in
    let ar = c.args.arities.now in
    c.all_set.ensures
    ∙ sym (at_drop_all (λ l. slot_pass c.args.slots ar c.loop-i.i T (map decode l)) code c.loop-i.i (search rules))
    ∙ c.loop-i.invariant.0 ∙ slots_are c.args.slots ar (map decode code) c.requires.few c.requires.inside
