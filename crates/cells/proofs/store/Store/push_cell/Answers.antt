use Rattle.std.proofs.Common.{◌<◌, length, Some, refl, ap, sym, ◌∙◌, subst, arith, length-set}
use Rattle.heap.specs.Limits.{cell_limit}
use Rattle.cells.specs.States.{Fine}
use Rattle.cells.specs.Stores.{cells_of, bound_of}
use Rattle.cells.proofs.GrowthLaws.{grew_by}
use Rattle.cells.proofs.StateLaws.{fine_push, grown_room, placed_room}
use Rattle.cells.proofs.StoreLaws.{store_fine, store_top, push_cut}
use Rattle.cells.proofs.store.Store.push_cell.Goals as goal

pub invariant_of-self : goal.invariant_of-self
invariant_of-self c =
    let s = c.args.self.now in
    let room : s.top < cell_limit = omega arith in
    record {
      long = length-set s.cells s.top c.args.c ∙ s.long;
      few = omega arith;
      fine = ∣ subst (λ H. Fine H (length (bound_of s))) (sym (push_cut s c.args.c room)) (fine_push (cells_of s) c.args.c _ (store_fine s) c.requires.older c.requires.spare) ∣₁;
    }

pub returns : goal.returns
returns c =
    let s = c.args.self.now in
    let room : s.top < cell_limit = omega arith in
    let fit : length (cells_of s) < cell_limit = omega (arith, room, store_top s) in
    let more = push_cut s c.args.c room ∙ sym (grown_room (cells_of s) c.args.c fit) in
    record { value = ap Some (sym (store_top s)) ∙ sym (placed_room (cells_of s) fit); cells = more; trail = refl; grew = grew_by c.args.c more refl }
