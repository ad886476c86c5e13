use Rattle.std.proofs.Common.{ℕ, ◌+◌, [], ◌∷◌, ◌++◌, length, sym, refl, ap, ◌∙◌, subst, arith}
use Rattle.code.specs.Words.{encode}
use Rattle.compiler.specs.Emits.{Rowed}
use Rattle.compiler.specs.Tables.{laid}
use Rattle.compiler.proofs.TableLaws.{hop_more, run_at, after_at, places_long}
use Rattle.compiler.proofs.FillLaws.{rowed_none, rowed_more, fill_long}
use Rattle.compiler.proofs.flat.Flat.write_row.Goals as goal

pub loop-k-init : goal.loop-k-init
loop-k-init g c = record {
  rowed = λ role makes. rowed_none _ _ _ _ _;
  words = omega arith;
  slots = refl;
  here = refl;
  within = λ h. let r = run_at (laid c.args.self.now).after _ _ _ _ 0 c.requires.run h in omega (arith, r, places_long c.args.self.now.places.now);
}

pub loop-k-preserved : goal.loop-k-preserved
loop-k-preserved g c =
    let e : ℕ → ℕ = (laid c.args.self.now).after in
    let next = sym (after_at c.args.self.now.places.now c.loop-k.at _ (c.loop-k.invariant.within c.loop-k-test.true)) ∙ ap e c.loop-k.invariant.here ∙ sym (hop_more e c.loop-k.k c.args.from) in
    record {
      rowed = λ role makes.
          subst (λ s. Rowed (laid c.args.self.now) role c.args.draft.now.words.items c.push.new.self.words.items c.args.draft.now.filled.items s (c.loop-k.k + 1) c.args.from) (sym c.push.ensures.filled)
          (rowed_more (c.loop-k.invariant.rowed role makes) c.loop-k.at c.operand-operand.result c.make.result _ _ c.loop-k.invariant.here c.operand-operand.ensures.chosen (makes _ _ _ c.make.ensures)
          (c.push.ensures.words ∙ ap (λ l. l ++ encode c.make.result ∷ []) c.operand-operand.ensures.words) c.push.ensures.exact);
      words = omega (arith, c.push.ensures.len, ap length c.operand-operand.ensures.words, c.loop-k.invariant.words);
      slots = ap length c.push.ensures.filled ∙ ap length c.operand-operand.ensures.chosen.after ∙ fill_long c.operand-operand.result c.loop-k.draft.filled.items ∙ c.loop-k.invariant.slots;
      here = next;
      within = λ h. let r = run_at e _ _ _ _ (c.loop-k.k + 1) c.requires.run h in omega (arith, r, next, places_long c.args.self.now.places.now);
    }
