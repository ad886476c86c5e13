use Rattle.std.proofs.Common.{◌≤◌, take, drop, sym, ap, ◌∙◌, subst₂, arith}
use Rattle.cells.specs.States.{Fine}
use Rattle.cells.specs.Stores.{cells_of, bound_of}
use Rattle.cells.proofs.GrowthLaws.{trail_wider, take_undone_first}
use Rattle.cells.proofs.StoreLaws.{store_top}
use Rattle.cells.proofs.store.Store.leave.Goals as goal

pub undo-requires-clause-inside : goal.undo-requires-clause-inside
undo-requires-clause-inside c =
    let s = c.args.self.now in
    trail_wider (cells_of s) s.cells (drop c.args.mark s.trail) (omega (arith, store_top s, s.long, s.few)) c.requires.inside

pub invariant_of-self : goal.invariant_of-self
invariant_of-self c =
    let s = c.args.self.now in
    let lower : c.args.top ≤ s.top = omega (arith, c.requires.lower, store_top s) in
    let left = ap (take c.args.top) c.undo.ensures.cells ∙ take_undone_first c.args.top s.top (drop c.args.mark (bound_of s)) s.cells lower in
    record {
      long = omega (arith, c.undo.auto.cells, s.long);
      few = omega (arith, s.few, lower);
      fine = ∣ subst₂ Fine (sym left) (sym c.undo.ensures.len) c.requires.fine ∣₁;
    }

pub returns-clause-cells : goal.returns-clause-cells
returns-clause-cells c =
    let s = c.args.self.now in
    let lower : c.args.top ≤ s.top = omega (arith, c.requires.lower, store_top s) in
    ap (take c.args.top) c.undo.ensures.cells ∙ take_undone_first c.args.top s.top (drop c.args.mark (bound_of s)) s.cells lower
