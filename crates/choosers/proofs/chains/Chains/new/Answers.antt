use Rattle.std.proofs.Common.{None, replicate}
use Rattle.std.proofs.lemmas.List.{get_or-replicate}
use Rattle.choosers.proofs.ChainLaws.{chain_none}
use Rattle.choosers.proofs.chains.Chains.new.Goals as goal

pub invariant_of-result-clause-chained : goal.invariant_of-result-clause-chained
invariant_of-result-clause-chained c = chain_none (replicate 256 None) (λ s h. get_or-replicate 256 s None None h)
