use Rattle.std.proofs.Common.{◌≡◌, ℕ, ◌+◌, ◌≤◌, false, List, [], ◌∷◌, ◌++◌, length, replicate, sym, ap, ◌∙◌, subst, subst₂, arith}
use lib.ListN.{length-replicate}
use Rattle.std.proofs.lemmas.Grind.{common_steps}
use Rattle.code.specs.Words.{encode}
use Rattle.code.specs.declared.instructions.Instruction.TheVariants.{Allocate}
use Rattle.horn.specs.Terms.{count as terms}
use Rattle.symbol_table.specs.Symbols.{Signature}
use Rattle.symbol_table.specs.Tables.{signature}
use Rattle.symbol_table.proofs.SymbolLaws.{signature_long, signature_small}
use Rattle.compiler.specs.Places.{Ends}
use Rattle.compiler.specs.Lines.{plan, structures, Numbered, Known, Slotted, Used}
use Rattle.compiler.specs.Reading.{reads}
use Rattle.compiler.specs.Tables.{items_of, ends_of, slots_of}
use Rattle.compiler.specs.declared.items.Item.{Item}
use Rattle.compiler.proofs.EmitLaws.{added_long}
use Rattle.compiler.proofs.StepLaws.{Coded, hefts_is, parts_long, before_all, ready_made, all_empty, slot_below, ends_any, coded}
use Rattle.compiler.proofs.RuleLaws.{wrote}
use Rattle.compiler.proofs.writer.write_clause.Goals as goal
use Rattle.compiler.proofs.writer.write_clause.Goals.{After-number_slots-places, After-deref, After-push}

pub number_slots-places-requires : goal.number_slots-places-requires
number_slots-places-requires c = record {
  few = omega (arith, c.requires.varied, parts_long c.args.items.now, hefts_is c.args.items.now, c.requires.light);
  room = omega (arith, hefts_is c.args.items.now, c.requires.light);
}

few : (c : After-number_slots-places) → c.number_slots-places.result.1 ≤ 128
few c = omega (arith, c.number_slots-places.ensures.count, c.requires.varied, parts_long c.args.items.now, hefts_is c.args.items.now, c.requires.light)

pub new-draft-requires : goal.new-draft-requires
new-draft-requires c = few (goal.at.new-draft-requires c).After-number_slots-places

-- the places are those that were found
placed : (c : After-deref) → c.deref.result.now ≡ c.find_places.new.places
placed c = let long = c.find_places.auto.places in grind (arith, common_steps, c.deref.ensures.0, c.deref_mut.ensures.value, long)

items_are : (c : After-deref) → items_of c.deref.result.now ≡ c.args.items.now
items_are c = ap items_of (placed c) ∙ c.find_places.ensures.items ∙ ap items_of c.deref_mut.ensures.value ∙ c.number_slots-places.ensures.items

slotted : (c : After-deref) → Slotted c.args.vars (items_of c.deref.result.now) (slots_of c.deref.result.now)
slotted c =
    subst₂ (Slotted c.args.vars) (sym (items_are c)) (sym (ap slots_of (placed c) ∙ c.find_places.ensures.slots ∙ ap slots_of c.deref_mut.ensures.value)) c.number_slots-places.ensures.slotted

ends : (c : After-deref) → Ends (plan (signature c.args.symbols.now) (items_of c.deref.result.now) (ends_of c.deref.result.now) []) 0
ends c = subst (λ ps. Ends (plan (signature c.args.symbols.now) (items_of ps) (ends_of ps) []) 0) (sym (placed c)) c.find_places.ensures.ends

numbered : (c : After-deref) → Numbered c.args.vars (items_of c.deref.result.now)
numbered c = subst (Numbered c.args.vars) (sym (items_are c)) c.requires.numbered

count : (c : After-deref) → c.number_slots-places.result.1 ≡ c.args.vars + structures (items_of c.deref.result.now)
count c = c.number_slots-places.ensures.count ∙ ap (λ ts. c.args.vars + structures ts) (sym (items_are c))

-- at first every slot is empty
clean : (c : After-push) → c.push.new.self.filled.items ≡ replicate c.number_slots-places.result.1 false
clean c = c.push.ensures.filled ∙ c.new-draft.ensures.filled

-- the words of the structures are counted by the weight
weighed : (c : After-deref) → length c.args.goals.now + length (items_of c.deref.result.now) + structures (items_of c.deref.result.now) ≤ 128
weighed c = let h = hefts_is c.args.items.now in omega (arith, h, ap length (items_are c), ap structures (items_are c), c.requires.light)

pub write_words-requires-clause-ready : goal.write_words-requires-clause-ready
write_words-requires-clause-ready c =
    let d = (goal.at.write_words-requires-clause-ready c).After-deref in
    let n = ap length (clean (goal.at.write_words-requires-clause-ready c).After-push) ∙ length-replicate c.number_slots-places.result.1 false in
    ready_made _ _ c.args.vars (ends d) (slotted d) (numbered d) (subst (Known (signature c.args.symbols.now)) (sym (items_are d)) c.requires.known) (n ∙ count d)

pub write_words-requires-clause-ahead : goal.write_words-requires-clause-ahead
write_words-requires-clause-ahead c =
    let d = (goal.at.write_words-requires-clause-ahead c).After-deref in
    all_empty (plan (signature c.args.symbols.now) (items_of c.deref.result.now) (ends_of c.deref.result.now) (slots_of c.deref.result.now)) _ c.number_slots-places.result.1 (clean (goal.at.write_words-requires-clause-ahead c).After-push)
    (λ i f lt at. omega (arith, slot_below c.args.vars (items_of c.deref.result.now) (slots_of c.deref.result.now) (slotted d) i f lt at, count d))

pub write_words-requires-clause-room : goal.write_words-requires-clause-room
write_words-requires-clause-room c =
    omega (
      arith,
      before_all (signature c.args.symbols.now) (items_of c.deref.result.now) (ends_of c.deref.result.now) (slots_of c.deref.result.now),
      weighed (goal.at.write_words-requires-clause-room c).After-deref,
      c.push.ensures.len,
      ap length c.new-draft.ensures.words,
    )

pub push-requires-2 : goal.push-requires-2
push-requires-2 c =
    omega (
      arith,
      before_all (signature c.args.symbols.now) (items_of c.deref.result.now) (ends_of c.deref.result.now) (slots_of c.deref.result.now),
      weighed (goal.at.push-requires-2 c).After-deref,
      added_long c.write_words.ensures.written.added,
      c.push.ensures.len,
      ap length c.new-draft.ensures.words,
    )

pub returns : goal.returns
returns c =
    let d = (goal.at.returns c).After-deref in
    let sig : Signature = signature c.args.symbols.now in
    let n : ℕ = c.number_slots-places.result.1 in
    let ts : List Item = items_of c.deref.result.now in
    let filled = clean (goal.at.returns c).After-push in
    let small = few (goal.at.returns c).After-number_slots-places in
    let made : Coded sig c.args.head c.args.vars n c.args.goals.now ts [] c.push-2.new.self.words.items c.push.new.self.filled.items =
    coded sig c.args.vars c.args.head n c.args.goals.now ts (ends_of c.deref.result.now) (slots_of c.deref.result.now)
    (ends_any sig ts (ends_of c.deref.result.now) [] (slots_of c.deref.result.now) (ends d)) (numbered d) (slotted d) (c.requires.full ∙ ap (λ l. terms (reads sig l)) (sym (items_are d)))
    _ _ _ _ _ _ (c.push.ensures.words ∙ ap (λ l. l ++ encode (Allocate n) ∷ []) c.new-draft.ensures.words) c.push.ensures.exact small c.write_words.ensures.written c.push-2.ensures.words
    (subst (Used c.args.vars) (sym (items_are d)) c.requires.used)
    (c.write_words.ensures.slots ∙ ap length filled ∙ length-replicate n false ∙ count d) in
    wrote c.push-2.new.self.words.items
    (subst₂ (λ l s. Coded sig c.args.head c.args.vars n c.args.goals.now l [] c.push-2.new.self.words.items s) (items_are d) filled made)
    (signature_small c.args.symbols.now) (omega (arith, signature_long c.args.symbols.now, c.args.symbols.now.few)) small c.requires.light c.requires.few
