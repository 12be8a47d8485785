use Rattle.std.proofs.Common.{subst}
use Rattle.qn_mps.specs.Chains.{IsHeld}
use Rattle.qn_corr.specs.Correlators.{CorrValue, AreMatched}
use Rattle.qn_corr.proofs.chains.Chains.known.Goals as goal

pub returns-clause-matched : goal.returns-clause-matched
returns-clause-matched g c = subst (λ (d : CorrValue). AreMatched d.bra d.op d.ket) c.self.view_is c.self.invariant

pub returns-clause-bra : goal.returns-clause-bra
returns-clause-bra g c = subst (λ (d : CorrValue). IsHeld d.bra) c.self.view_is c.known.ensures

pub returns-clause-op : goal.returns-clause-op
returns-clause-op g c = subst (λ (d : CorrValue). IsHeld d.op) c.self.view_is c.known-2.ensures

pub returns-clause-ket : goal.returns-clause-ket
returns-clause-ket g c = subst (λ (d : CorrValue). IsHeld d.ket) c.self.view_is c.known-3.ensures
