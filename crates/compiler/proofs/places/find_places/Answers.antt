use Rattle.std.proofs.Common.{◌+◌, ◌-◌, [], sym, refl, ap, ◌∙◌, subst, subst₂, arith}
use Rattle.std.proofs.lemmas.List.{map-set, length-map}
use Rattle.std.proofs.Math.Seq.{map-set_same}
use Rattle.compiler.specs.Places.{Ends, Run, width}
use Rattle.compiler.specs.Reading.{Whole}
use Rattle.compiler.specs.Terms.{hop}
use Rattle.compiler.specs.Lines.{plan}
use Rattle.compiler.specs.Tables.{items_of, ends_of, table}
use Rattle.symbol_table.specs.Tables.{signature}
use Rattle.compiler.proofs.TableLaws.{turn_run, turn_ends, item_at, places_long}
use Rattle.compiler.proofs.places.find_places.Goals as goal

pub skip-requires : goal.skip-requires
skip-requires c =
    let ps = c.loop-i.places in
    let i = c.loop-i.i in
    let long = places_long ps in
    let wide = c.width-width.ensures ∙ ap (width (signature c.args.symbols.now)) (sym (item_at ps (i - 1) _ (omega arith))) in
    subst (λ n. Run (table (ends_of ps)) n c.width-width.result (i - 1 + 1) (hop (table (ends_of ps)) c.width-width.result (i - 1 + 1))) long
    (turn_run (signature c.args.symbols.now) (items_of ps) (ends_of ps) [] i _ (subst (Whole (signature c.args.symbols.now)) (sym c.loop-i.invariant.items) c.requires) c.loop-i.invariant.ends c.loop-i-test.true (omega arith)
    (length-map ps (λ p. p.after) ∙ sym long) wide)

pub loop-i-preserved : goal.loop-i-preserved
loop-i-preserved c =
    let ps = c.loop-i.places in
    let i = c.loop-i.i in
    let long = places_long ps in
    let wide = c.width-width.ensures ∙ ap (width (signature c.args.symbols.now)) (sym (item_at ps (i - 1) _ (omega arith))) in
    let turned = turn_ends (signature c.args.symbols.now) (items_of ps) (ends_of ps) [] i _ (subst (Whole (signature c.args.symbols.now)) (sym c.loop-i.invariant.items) c.requires) c.loop-i.invariant.ends c.loop-i-test.true (omega arith)
    (length-map ps (λ p. p.after) ∙ sym long) wide _ c.skip.ensures in
    let items = map-set_same (λ p. p.item) ps (i - 1) _ _ refl in
    record {
      ends = subst₂ (λ ts es. Ends (plan (signature c.args.symbols.now) ts es []) (i - 1)) (sym items) (sym (map-set (λ p. p.after) ps (i - 1) _)) turned;
      items = items ∙ c.loop-i.invariant.items;
      slots = map-set_same (λ p. p.slot) ps (i - 1) _ _ refl ∙ c.loop-i.invariant.slots;
    }
