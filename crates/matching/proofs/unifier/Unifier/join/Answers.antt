use Rattle.std.proofs.Common.{refl, ap, arith, rules}
use Rattle.heap.specs.Heaps.{arity}
use Rattle.heap.specs.declared.cell.Cell.TheVariants.{Ref}
use Rattle.heap.proofs.HeapLaws.{node_fits, total_set}
use Rattle.heap.proofs.SolutionLaws.{clash, occurs}
use Rattle.matching.proofs.JoinLaws.{refused, attached_nodes, attached_free, attached_free_swapped}
use Rattle.matching.proofs.unifier.Unifier.join.Goals as goal

pub returns-in-Unbound-Unbound-clause-result : goal.returns-in-Unbound-Unbound-clause-result
returns-in-Unbound-Unbound-clause-result g c =
    attached_free_swapped c.args.cells.now _ c.args.i c.args.j _ _ c.requires.sound c.requires.closed c.requires.i_within c.requires.j_within
    c.in-Unbound-Unbound.is-1 c.requires.i_root c.requires.other c.attach.ensures.result

pub returns-in-Unbound-Unbound-2-clause-result : goal.returns-in-Unbound-Unbound-2-clause-result
returns-in-Unbound-Unbound-2-clause-result g c =
    attached_free c.args.cells.now _ c.args.i c.args.j _ _ c.requires.sound c.requires.closed c.requires.i_within c.requires.j_within
    c.in-Unbound-Unbound-2.is-0 c.requires.j_root c.requires.other c.attach-in-Unbound-Unbound-2.ensures.result

pub returns-in-Unbound-Node-clause-result : goal.returns-in-Unbound-Node-clause-result
returns-in-Unbound-Node-clause-result g c =
    attached_free c.args.cells.now _ c.args.i c.args.j _ _ c.requires.sound c.requires.closed c.requires.i_within c.requires.j_within
    c.in-Unbound-Node.is-0 c.requires.j_root c.requires.other c.attach-in-Unbound-Node.ensures.result

pub returns-in-Node-Unbound-clause-result : goal.returns-in-Node-Unbound-clause-result
returns-in-Node-Unbound-clause-result g c =
    attached_free_swapped c.args.cells.now _ c.args.i c.args.j _ _ c.requires.sound c.requires.closed c.requires.i_within c.requires.j_within
    c.in-Node-Unbound.is-1 c.requires.i_root c.requires.other c.attach-in-Node-Unbound.ensures.result

pub returns-then-f-g-clause-result : goal.returns-then-f-g-clause-result
returns-then-f-g-clause-result g c =
    (refl, clash c.args.cells.now c.args.i c.args.j _ _ _ _ _ _ c.in-Node-Node.is-0 c.in-Node-Node.is-1 c.then-f-g.either)

pub returns-in_err-attach-in-Node-Node-clause-result : goal.returns-in_err-attach-in-Node-Node-clause-result
returns-in_err-attach-in-Node-Node-clause-result g c =
    let failed = c.in_err-attach-in-Node-Node.ensures.result in
    refused _ _ c.from_residual.result c.from_residual.ensures.0 (failed.0, occurs c.args.cells.now c.args.i c.args.j c.requires.j_root c.requires.other failed.1)

pub push_rows-requires : goal.push_rows-requires
push_rows-requires g c =
    let cells = c.args.cells.now in
    let at_i = node_fits cells c.requires.closed c.args.i _ _ _ c.in-Node-Node.is-0 in
    let at_j = node_fits cells c.requires.closed c.args.j _ _ _ c.in-Node-Node.is-1 in (
      search rules,
      (
        omega (arith, at_i, at_j),
        (
          omega (arith, at_i, at_j),
          omega (arith, c.requires.pairs_room, total_set arity cells c.args.i (Ref 0) c.requires.i_within, ap arity c.in-Node-Node.is-0),
        ),
      ),
    )

pub returns-in_ok-attach-in-Node-Node-clause-result : goal.returns-in_ok-attach-in-Node-Node-clause-result
returns-in_ok-attach-in-Node-Node-clause-result g c =
    attached_nodes c.args.cells.now _ _ c.args.i c.args.j _ _ _ _ _ _ _ c.requires.sound c.requires.closed c.requires.i_within c.requires.j_within c.requires.other
    c.in-Node-Node.is-0 c.in-Node-Node.is-1 c.if-f-g.false c.if-n-m.false c.in_ok-attach-in-Node-Node.ensures.result c.push_rows.ensures
