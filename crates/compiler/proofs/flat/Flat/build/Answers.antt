use Rattle.std.proofs.Common.{ℕ, ◌+◌, ◌<◌, true, length, set, sym, refl, ap, ◌∙◌, subst, subst₂, rules}
use Rattle.compiler.specs.Terms.{hop}
use Rattle.compiler.specs.Places.{Plan, Run}
use Rattle.compiler.specs.Lines.{Sound}
use Rattle.compiler.specs.Lawful.{Formed}
use Rattle.compiler.specs.Emits.{Rowed, Struck}
use Rattle.compiler.specs.Tables.{laid}
use Rattle.compiler.specs.Scripts.{goal as goal'}
use Rattle.compiler.specs.Rows.{Sets}
use Rattle.code.specs.declared.instructions.Instruction.TheVariants.{PutStructure}
use Rattle.compiler.proofs.TableLaws.{structure_run, item_at, slot_at, laid_within, laid_item}
use Rattle.compiler.proofs.StepLaws.{still_empty}
use Rattle.compiler.proofs.FlowLaws.{struck_put, struck_leaf}
use Rattle.compiler.proofs.flat.Flat.build.Goals as goal

pub write_row-requires-clause-run : goal.write_row-requires-clause-run
write_row-requires-clause-run c =
    subst (λ n. Run (laid c.args.self.now).after (laid c.args.self.now).size n (c.args.i + 1) (hop (laid c.args.self.now).after n (c.args.i + 1))) (sym c.arity.ensures.value)
    (structure_run (laid c.args.self.now) c.requires.ready.ends c.args.i _ (laid_within c.args.self.now c.args.i c.requires.within) (laid_item c.args.self.now c.args.i c.requires.within _ _ c.in-Structure.is))

pub returns-in_default : goal.returns-in_default
returns-in_default c = record {
  struck = struck_leaf (laid c.args.self.now) goal' _ c.args.i _ _ (item_at c.args.self.now.places.now c.args.i _ c.requires.within) c.in_default.not-Structure;
  slots = refl;
}

pub fill-requires : goal.fill-requires
fill-requires c =
    let is = laid_item c.args.self.now c.args.i c.requires.within _ _ c.in-Structure.is in
    subst₂ (λ (y n : ℕ). y < n) (slot_at c.args.self.now.places.now c.args.i _ c.requires.within) (sym (c.write_row.ensures.slots ∙ ap length c.push.ensures.filled))
    (c.requires.ready.slots c.args.i _ (laid_within c.args.self.now c.args.i c.requires.within) is)

pub returns-clause-struck : goal.returns-clause-struck
returns-clause-struck c =
    let p : Plan = laid c.args.self.now in
    let is = laid_item c.args.self.now c.args.i c.requires.within _ _ c.in-Structure.is in
    let here = laid_within c.args.self.now c.args.i c.requires.within in
    let formed : Formed p.sig c.in-Structure.f = subst (Sound p.sig) is (c.requires.ready.known c.args.i here) in
    let rowed = subst (λ s. Rowed p Sets c.push.new.self.words.items c.write_row.new.draft.words.items s c.write_row.new.draft.filled.items c.arity.result (c.args.i + 1)) c.push.ensures.filled (c.write_row.ensures.rowed Sets (λ o a i h. search rules)) in
    let at = slot_at c.args.self.now.places.now c.args.i _ c.requires.within in
    subst₂ (λ ws s. Struck p goal' c.args.i c.args.draft.now.words.items ws c.args.draft.now.filled.items s) (sym c.fill.ensures.words)
    (ap (λ y. set c.write_row.new.draft.filled.items y true) at ∙ sym c.fill.ensures.filled)
    (struck_put p _ c.push.new.self.words.items _ _ _ c.args.i c.in-Structure.f _ _ is c.arity.ensures.value formed.1 (ap (λ y. PutStructure y c.in-Structure.f) (sym at))
    c.push.ensures.words c.push.ensures.exact formed
    (still_empty c.requires.ready.ends c.requires.ready.apart c.args.i c.in-Structure.f here is c.arity.ensures.value rowed c.requires.empty)
    rowed)
