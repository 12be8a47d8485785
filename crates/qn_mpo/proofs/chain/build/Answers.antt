use Rattle.qn_auto.specs.SumAutomaton.{IsAutomatonOf}
use Rattle.std.proofs.Common.{subst, sym}
use Rattle.qn_mpo.proofs.Chained.{built_elements}
use Rattle.qn_mpo.proofs.chain.build.Goals as goal

pub returns-clause-elements : goal.returns-clause-elements
returns-clause-elements g c =
    built_elements c.args.sum.now c.known.ensures c.in_ok-chain.chain c.in_ok-chain.ensures.on (subst (IsAutomatonOf c.args.sum.now) (sym c.in_ok-chain.ensures.tensors) c.in_ok-tensors.ensures.ok) c.in_ok-chain.ensures.chain
