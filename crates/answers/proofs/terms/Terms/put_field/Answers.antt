use Rattle.std.proofs.Common.{◌≡◌, ◌∷◌, decimal, sym, ap, ◌∙◌, subst, arith}
use Rattle.heap.specs.declared.cell.Cell.TheVariants.{Unbound}
use Rattle.heap.specs.Heaps.{cell}
use Rattle.heap.proofs.HeapLaws.{root_free}
use Rattle.answers.specs.Frames.{field_at, seen_at, frame_at}
use Rattle.answers.specs.Numbering.{Numbered}
use Rattle.answers.proofs.TakeLaws.{puts_same, puts_less}
use Rattle.answers.proofs.terms.Terms.put_field.Goals as goal

pub returns-in_ok-put_symbol-in-Node-clause-smaller : goal.returns-in_ok-put_symbol-in-Node-clause-smaller
returns-in_ok-put_symbol-in-Node-clause-smaller g c = omega (arith, puts_less g.met.S.Sink.none g.met.S.Sink.less c.in_ok-put_symbol-in-Node.ensures)

pub returns-in_ok-put_label-in_default : goal.returns-in_ok-put_label-in_default
returns-in_ok-put_label-in_default g c =
    let at = c.args.at in
    let H = c.args.self.now.cells.now in
    let is : cell H at ≡ Unbound = root_free (cell H at) c.requires.rooted c.in_default.not-Node in
    let puts = c.in_ok-put_label-in_default.ensures in
    record {
      frame = ap (λ x. frame_at x at) (sym is);
      smaller = omega (arith, puts_less g.met.S.Sink.none g.met.S.Sink.less puts);
      after = λ us h.
          let n = c.number.ensures us h in (
            puts_same (ap (λ k. 44 ∷ 95 ∷ decimal k) n.1 ∙ ap (λ x. field_at (g.N.Names.naming c.args.self.now.names.now) x at us) (sym is)) puts,
            subst (λ x. Numbered (seen_at x at us) c.number.new.self.numbers c.number.new.self.seen) (sym is) n.0,
          );
    }
