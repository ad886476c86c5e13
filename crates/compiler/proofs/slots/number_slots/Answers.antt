use Rattle.std.proofs.Common.{◌≡◌, ℕ, ◌+◌, ◌<◌, [], ◌∷◌, ◌++◌, length, get_or, take, sym, ap, ◌∙◌, subst, arith, length-take-le}
use Rattle.std.proofs.lemmas.List.{take_more, length-map}
use Rattle.compiler.specs.Lines.{structures}
use Rattle.compiler.specs.Tables.{items_of, slots_of}
use Rattle.compiler.specs.declared.items.Item.TheVariants.{Atom}
use Rattle.compiler.proofs.StepLaws.{structures_more, structures_up}
use Rattle.compiler.proofs.TableLaws.{places_more, slots_more}
use Rattle.compiler.proofs.slots.number_slots.Goals as goal

pub overflow_add-next : goal.overflow_add-next
overflow_add-next c =
    omega (arith, structures_more c.args.items.now c.loop-item.item-index (omega arith), structures_up c.args.items.now (c.loop-item.item-index + 1))

pub loop-item-preserved : goal.loop-item-preserved
loop-item-preserved c =
    let i = c.loop-item.item-index in
    let more = places_more c.loop-item.places.items (record { item = get_or c.args.items.now i (Atom 0); after = 0; slot = c.loop-item.next }) in
    let long = ap length c.loop-item.invariant.items ∙ length-take-le i c.args.items.now (omega arith) in
    record {
      items = ap items_of c.push.ensures.items ∙ more.0 ∙ ap (λ l. l ++ get_or c.args.items.now i (Atom 0) ∷ []) c.loop-item.invariant.items ∙ sym (take_more c.args.items.now i (Atom 0) (omega arith));
      next = omega (arith, structures_more c.args.items.now i (omega arith));
      slotted =
          subst (λ l. (k : ℕ) → k < i + 1 → get_or l k 0 ≡ c.args.vars + structures (take k c.args.items.now)) (sym (ap slots_of c.push.ensures.items ∙ more.1))
          (slots_more c.args.vars c.args.items.now (slots_of c.loop-item.places.items) i _ (length-map c.loop-item.places.items (λ p. p.slot) ∙ sym (length-map c.loop-item.places.items (λ p. p.item)) ∙ long) c.loop-item.invariant.next c.loop-item.invariant.slotted);
    }
