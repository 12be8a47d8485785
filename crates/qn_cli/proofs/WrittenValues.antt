-- The network that is written has the matrix elements of the operator sum.
use Rattle.std.proofs.Common.{◌≡◌, ℕ, List, subst}
use Rattle.qn_index.specs.Legs.{LegValue}
use Rattle.qn_block.specs.Blocked.{BlockedValue}
use Rattle.qn_opsum.specs.Sums.{SumValue}
use Rattle.qn_opsum.specs.Refusals.{IsSum}
use Rattle.qn_paths.specs.Sums.{SumElementLaw, site_legs, sum_element}
use Rattle.qn_braket.specs.Chains.{IsChain, IsOperatorChain, element}
use Rattle.qn_mps.specs.Chains.{ChainValue, IsHeld, legs_of}
use Rattle.qn_mps.specs.declared.chain.ChainKind.{ChainKind}
use Rattle.qn_mpo.specs.Builds.{IsBuilt}
use Rattle.qn_cli.specs.Operators.{HasElements, IsSumIn}
use Rattle.qn_cli.proofs.Automata.{tensors_are}
use Rattle.qn_cli.proofs.Outcomes.{one_sum}

pub elements_told : SumElementLaw → (v : SumValue) (c : ChainValue) → IsSum v → IsHeld c → IsBuilt v c → HasElements v
elements_told law v c sum held built u s in_u in_s =
    let chain : IsOperatorChain (site_legs v) c.tensors =
    subst (λ (ls : List LegValue). IsOperatorChain ls c.tensors) built.on.sites (subst (λ (k : ChainKind). IsChain (legs_of k) c.sites c.tensors) built.on.kind held.chain) in
    subst (λ (ts : List BlockedValue). element v.group ts u s ≡ sum_element v u s) (tensors_are v c held built) (law v c.tensors sum built.tensors chain u s in_u in_s)

-- and so has the operator sum that the bytes say
pub elements_of_bytes : (bytes : List ℕ) (v w : SumValue) → IsSumIn bytes v → HasElements v → IsSumIn bytes w → HasElements w
elements_of_bytes bytes v w p e q = subst HasElements (one_sum bytes v w p q) e
