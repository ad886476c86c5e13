use Rattle.std.proofs.Common.{◌<◌, length, sym, refl, subst}
use Rattle.compiler.specs.Lines.{Sound}
use Rattle.compiler.specs.Emits.{Picked}
use Rattle.compiler.specs.Tables.{laid}
use Rattle.symbol_table.specs.Tables.{signature}
use Rattle.compiler.proofs.TableLaws.{numbered_at, slot_at, laid_within, laid_item}
use Rattle.compiler.proofs.FillLaws.{chosen, chosen_constant}
use Rattle.compiler.proofs.flat.Flat.operand.Goals as goal

pub returns-in-Atom-clause-chosen : goal.returns-in-Atom-clause-chosen
returns-in-Atom-clause-chosen c =
    let is = laid_item c.args.self.now c.args.i c.requires.within _ _ c.in-Atom.is in
    chosen_constant (laid c.args.self.now) c.args.i c.in-Atom.c _ is
    (subst (Sound (signature c.args.self.now.symbols.now)) is (c.requires.ready.known c.args.i (laid_within c.args.self.now c.args.i c.requires.within)))

pub slot-requires-in-Variable : goal.slot-requires-in-Variable
slot-requires-in-Variable c = numbered_at _ _ c.args.i c.in-Variable.v c.requires.ready.vars (laid_item c.args.self.now c.args.i c.requires.within _ _ c.in-Variable.is)

pub slot-requires : goal.slot-requires
slot-requires c =
    subst (λ y. y < length c.args.draft.now.filled.items) (slot_at c.args.self.now.places.now c.args.i _ c.requires.within)
    (c.requires.ready.slots c.args.i _ (laid_within c.args.self.now c.args.i c.requires.within) (laid_item c.args.self.now c.args.i c.requires.within _ _ c.in-Structure.is))

pub returns-in-Structure-clause-chosen : goal.returns-in-Structure-clause-chosen
returns-in-Structure-clause-chosen c =
    chosen (laid c.args.self.now) c.args.i _ _ _ _ _ (laid_item c.args.self.now c.args.i c.requires.within _ _ c.in-Structure.is) (λ ρ. refl) (λ h. h) (λ z off q. off q)
    (subst (λ y. Picked y c.slot.result c.args.draft.now.filled.items c.slot.new.self.filled.items) (sym (slot_at c.args.self.now.places.now c.args.i _ c.requires.within)) c.slot.ensures.picked)

pub returns-in-Variable-clause-chosen : goal.returns-in-Variable-clause-chosen
returns-in-Variable-clause-chosen c =
    chosen (laid c.args.self.now) c.args.i _ _ _ _ _ (laid_item c.args.self.now c.args.i c.requires.within _ _ c.in-Variable.is) (λ ρ. refl) (λ h. h) (λ z off q. off q) c.slot-in-Variable.ensures.picked
