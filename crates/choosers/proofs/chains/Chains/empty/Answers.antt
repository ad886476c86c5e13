use Rattle.std.proofs.Common.{None, replicate}
use Rattle.std.proofs.lemmas.List.{get_or-replicate}
use Rattle.choosers.proofs.ChainLaws.{chain_none}
use Rattle.choosers.proofs.chains.Chains.empty.Goals as goal

pub invariant_of-self-clause-chained : goal.invariant_of-self-clause-chained
invariant_of-self-clause-chained c = chain_none (replicate 256 None) (λ s h. get_or-replicate 256 s None None h)
