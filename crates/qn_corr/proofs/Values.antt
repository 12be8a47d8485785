-- The value that is kept is the expectation.
use Rattle.std.proofs.Common.{◌≡◌, List, ◌∙◌}
use Rattle.qn_gauss.specs.Gaussian.{Gaussian}
use Rattle.qn_plan.specs.Planned.{StepValue}
use Rattle.qn_braket.specs.ChainLaws.{ExpectNetworkLaw}
use Rattle.qn_mps.specs.Chains.{IsHeld}
use Rattle.qn_mps.proofs.Brakets.{as_state, as_operator}
use Rattle.qn_engine.specs.Parts.{PartValue}
use Rattle.qn_corr.specs.Correlators.{CorrValue, IsKept, expectation_of}

pub value_is : ExpectNetworkLaw → (c : CorrValue) (plan : List StepValue) (kept : List PartValue) (v : Gaussian) → IsKept c plan kept v → IsHeld c.bra → IsHeld c.op → IsHeld c.ket → v ≡ expectation_of c
value_is law c plan kept v k hb ho hk =
    k.result_is
    ∙ law c.bra.group c.bra.sites c.bra.tensors c.op.tensors c.ket.tensors k.net
    (as_state c.bra c.bra.sites hb k.matched.bra_kind (λ i. c.bra.sites)) (as_operator c.op c.bra.sites ho k.matched.op_kind k.matched.sites.0) (as_state c.ket c.bra.sites hk k.matched.ket_kind k.matched.sites.1) k.network
