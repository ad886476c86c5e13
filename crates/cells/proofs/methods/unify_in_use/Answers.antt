use Rattle.std.proofs.Common.{MatchBool, is_ok, length, take, drop, sym, ◌∙◌, subst, arith, rules}
use Rattle.std.proofs.lemmas.List.{length-take-le, take_at}
use Rattle.heap.specs.Solutions.{Apart}
use Rattle.matching.specs.Trails.{Kept}
use Rattle.matching.specs.Unifies.{Unified}
use Rattle.cells.specs.States.{Fine}
use Rattle.cells.proofs.StateLaws.{fine_kept}
use Rattle.cells.proofs.methods.unify_in_use.Goals as goal

pub unify-requires : goal.unify-requires
unify-requires c =
    let cells = c.args.cells.now in
    let top = c.args.top in
    let used = length-take-le top cells c.requires.within in
    let fine = c.requires.fine in (
      search rules,
      (
        fine.sound,
        (
          fine.closed,
          (
            omega (arith, used, c.requires.few),
            (
              omega (arith, used, c.requires.a_within),
              (
                omega (arith, used, c.requires.b_within),
                (omega (arith, used, fine.bindings, c.requires.few), omega (arith, used, fine.arguments, c.requires.few)),
              ),
            ),
          ),
        ),
      ),
    )

pub returns : goal.returns
returns c =
    let cells = c.args.cells.now in
    let top = c.args.top in
    let was = take top cells in
    let H = c.unify.new.cells in
    let t = c.unify.new.trail in
    let done = c.unify.ensures in
    let left = take_at H (drop top cells) top (done.kept.long ∙ length-take-le top cells c.requires.within) in
    record {
      fine = subst (λ X. Fine X (length t)) (sym left) (fine_kept c.requires.fine done.kept done.sound done.closed);
      kept = subst (λ X. Kept was c.args.trail.now X t) (sym left) done.kept;
      result = subst (λ X. MatchBool (is_ok c.unify.result) (Unified was X c.args.a c.args.b) (Apart was c.args.a c.args.b)) (sym left) done.result;
    }
