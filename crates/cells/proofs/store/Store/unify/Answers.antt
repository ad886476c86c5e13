use Rattle.std.proofs.Common.{arith}
use Rattle.cells.proofs.GrowthLaws.{grew_kept}
use Rattle.cells.proofs.StoreLaws.{store_fine, store_top}
use Rattle.cells.proofs.store.Store.unify.Goals as goal

pub unify_in_use-requires : goal.unify_in_use-requires
unify_in_use-requires c =
    let s = c.args.self.now in
    record {
      within = omega (arith, s.long, s.few);
      few = s.few;
      fine = store_fine s;
      a_within = omega (arith, c.requires.a_within, store_top s);
      b_within = omega (arith, c.requires.b_within, store_top s);
    }

pub invariant_of-self : goal.invariant_of-self
invariant_of-self c =
    let s = c.args.self.now in
    record { long = omega (arith, c.unify_in_use.auto.cells, s.long); few = s.few; fine = ∣ c.unify_in_use.ensures.fine ∣₁ }

pub returns : goal.returns
returns c =
    let done = c.unify_in_use.ensures in
    record { kept = done.kept; grew = grew_kept done.kept; result = done.result }
