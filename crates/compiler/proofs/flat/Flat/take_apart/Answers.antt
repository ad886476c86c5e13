use Rattle.std.proofs.Common.{◌+◌, sym, refl, ap, subst, rules}
use Rattle.compiler.specs.Terms.{hop}
use Rattle.compiler.specs.Places.{Run}
use Rattle.compiler.specs.Lines.{Sound}
use Rattle.compiler.specs.Emits.{Rowed}
use Rattle.compiler.specs.Tables.{laid}
use Rattle.symbol_table.specs.Tables.{signature}
use Rattle.compiler.specs.Scripts.{inside}
use Rattle.compiler.specs.Rows.{Unifies}
use Rattle.code.specs.declared.instructions.Instruction.TheVariants.{GetStructure}
use Rattle.compiler.proofs.TableLaws.{structure_run, item_at, slot_at, laid_within, laid_item}
use Rattle.compiler.proofs.FlowLaws.{struck_get, struck_leaf}
use Rattle.compiler.proofs.flat.Flat.take_apart.Goals as goal

pub write_row-requires-clause-run : goal.write_row-requires-clause-run
write_row-requires-clause-run c =
    subst (λ n. Run (laid c.args.self.now).after (laid c.args.self.now).size n (c.args.i + 1) (hop (laid c.args.self.now).after n (c.args.i + 1))) (sym c.arity.ensures.value)
    (structure_run (laid c.args.self.now) c.requires.ready.ends c.args.i _ (laid_within c.args.self.now c.args.i c.requires.within) (laid_item c.args.self.now c.args.i c.requires.within _ _ c.in-Structure.is))

pub returns-in_default : goal.returns-in_default
returns-in_default c = record {
  struck = struck_leaf (laid c.args.self.now) inside _ c.args.i _ _ (item_at c.args.self.now.places.now c.args.i _ c.requires.within) c.in_default.not-Structure;
  slots = refl;
}

pub returns-clause-struck : goal.returns-clause-struck
returns-clause-struck c =
    let is = laid_item c.args.self.now c.args.i c.requires.within _ _ c.in-Structure.is in
    struck_get (laid c.args.self.now) _ c.push.new.self.words.items _ _ _ c.args.i c.in-Structure.f _ _ is c.arity.ensures.value
    (ap (λ y. GetStructure y c.in-Structure.f) (sym (slot_at c.args.self.now.places.now c.args.i _ c.requires.within))) c.push.ensures.words c.push.ensures.exact
    (subst (Sound (signature c.args.self.now.symbols.now)) is (c.requires.ready.known c.args.i (laid_within c.args.self.now c.args.i c.requires.within))) c.requires.marked
    (subst (λ s. Rowed (laid c.args.self.now) Unifies c.push.new.self.words.items c.write_row.new.draft.words.items s c.write_row.new.draft.filled.items c.arity.result (c.args.i + 1)) c.push.ensures.filled
    (c.write_row.ensures.rowed Unifies (λ o a i h. search rules)))
