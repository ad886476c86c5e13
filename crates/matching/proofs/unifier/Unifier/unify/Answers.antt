use Rattle.matching.proofs.TrailLaws.{kept_trans}
use Rattle.matching.proofs.JoinLaws.{refused, turn_same, turn_joined, turn_apart}
use Rattle.matching.proofs.unifier.Unifier.unify.Goals as goal

pub loop-pair-preserved-in-Continue-1 : goal.loop-pair-preserved-in-Continue-1
loop-pair-preserved-in-Continue-1 g c =
    let was = c.loop-pair.invariant in
    let joined = c.in_ok-join.ensures in
    record {
      unifying = turn_joined _ c.in-Some.pair c.root-i.result c.root-j.result c.in-Some.ensures.items was.unifying c.root-i.ensures c.root-j.ensures joined.result;
      kept = kept_trans was.kept joined.kept;
    }

pub returns-in_err-join-clause-result : goal.returns-in_err-join-clause-result
returns-in_err-join-clause-result g c =
    refused _ _ c.from_residual.result c.from_residual.ensures.0
    (turn_apart _ c.in-Some.pair c.root-i.result c.root-j.result c.in-Some.ensures.items c.loop-pair.invariant.unifying c.root-i.ensures c.root-j.ensures
    c.in_err-join.ensures.result.1)

pub loop-pair-preserved : goal.loop-pair-preserved
loop-pair-preserved g c =
    let was = c.loop-pair.invariant in
    record {
      unifying = turn_same _ c.in-Some.pair c.root-i.result c.root-j.result c.in-Some.ensures.items was.unifying c.root-i.ensures c.root-j.ensures c.if-i-j.false;
      kept = was.kept;
    }
