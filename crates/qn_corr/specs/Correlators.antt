-- The expectation of an operator between two states, kept while tensors of the states are replaced. Sites are numbered from 0 here.
-- Fishman, White and Stoudenmire 2022; signs of super vector spaces.
use Rattle.std.specs.Prelude.{◌≡◌, ◌≢◌, ◌+◌, ℕ, None, Some, List, [], length}
use Rattle.qn_gauss.specs.Gaussian.{Gaussian}
use Rattle.qn_block.specs.Blocked.{BlockedValue}
use Rattle.qn_net.specs.NetworkValues.{NetworkValue, IsWellFormed, value, passing_place}
use Rattle.qn_plan.specs.Planned.{StepValue, planned, first_wide, cost_of_plan}
use Rattle.qn_braket.specs.Chains.{tensor_at, element, expectation, IsExpectNetwork}
use Rattle.qn_mps.specs.declared.chain.ChainKind.TheVariants.{State, Operator}
use Rattle.qn_mps.specs.declared.chain.Who.{Who}
use Rattle.qn_mps.specs.declared.chain.Who.TheVariants.{Bra, Ket}
use Rattle.qn_mps.specs.Chains.{ChainValue, with_tensor}
use Rattle.qn_engine.specs.Parts.{PartValue}
use Rattle.qn_sweep.specs.LeftToRight.{rest_cost}
use Rattle.qn_sweep.specs.Putting.{IsPut}
use Rattle.qn_corr.specs.declared.fault.CorrFault.{CorrFault}
use Rattle.qn_corr.specs.declared.fault.CorrFault.TheVariants as Corr
use Rattle.qn_corr.specs.declared.fault.PutFault.{PutFault}
use Rattle.qn_corr.specs.declared.fault.PutFault.TheVariants as Put
use Rattle.qn_corr.specs.Sweeping.{AreEnvironments}

-- a correlator: the two states and the operator between them
pub record CorrValue : Type 0 where
  pub bra : ChainValue
  pub op : ChainValue
  pub ket : ChainValue

-- two states and an operator of one group, on the same sites
pub record AreMatched (bra op ket : ChainValue) : Type 0 where
  pub bra_kind : bra.kind ≡ State
  pub op_kind : op.kind ≡ Operator
  pub ket_kind : ket.kind ≡ State
  pub groups : (op.group ≡ bra.group) × (ket.group ≡ bra.group)
  pub sites : (op.sites ≡ bra.sites) × (ket.sites ≡ bra.sites)

-- the network is that of the expectation
abbrev pub IsNetworkOf : CorrValue → NetworkValue → Type 0
IsNetworkOf c net = IsExpectNetwork c.bra.group c.bra.tensors c.op.tensors c.ket.tensors net

-- the expectation of the operator between the two states
abbrev pub expectation_of : CorrValue → Gaussian
expectation_of c = expectation c.bra.group c.bra.sites (element c.bra.group c.op.tensors) c.bra.tensors c.ket.tensors

-- one of the two states
abbrev pub chain_of : CorrValue → Who → ChainValue
chain_of c Bra = c.bra
chain_of c Ket = c.ket

-- with this tensor on site j of one of the two states
abbrev pub with_site : CorrValue → Who → ℕ → BlockedValue → CorrValue
with_site c Bra j t = record { bra = with_tensor c.bra j t; op = c.op; ket = c.ket }
with_site c Ket j t = record { bra = c.bra; op = c.op; ket = with_tensor c.ket j t }

-- the tensor on site j of one of the two states
abbrev pub tensor_on : CorrValue → Who → ℕ → BlockedValue
tensor_on c who j = tensor_at (chain_of c who).tensors j

-- no step of the expectation is too wide, and none passes
abbrev pub IsClear : CorrValue → Type 0
IsClear c = (net : NetworkValue) → IsNetworkOf c net → (first_wide net ≡ None) × (passing_place net ≡ None)

-- why there is no correlator: the first step whose result is too wide; where there is none, the first place at which a step passes; or memory was wanting
abbrev pub IsCorrFault : CorrValue → CorrFault → Type 0
IsCorrFault c (Corr.Wide step) = (net : NetworkValue) → IsNetworkOf c net → first_wide net ≡ Some step
IsCorrFault c (Corr.Passed step at offset) =
    (net : NetworkValue) → IsNetworkOf c net → (first_wide net ≡ None) × (passing_place net ≡ Some (record { step = step; tuple = at; offset = offset }))
IsCorrFault c Corr.Memory = Unit {0}

-- why a tensor is not put on site j: its legs are other ones; or else its flux; or else the first place at which a step passes; or memory was wanting
abbrev pub IsPutFault : CorrValue → Who → ℕ → BlockedValue → PutFault → Type 0
IsPutFault c who j t Put.Legs = t.legs ≢ (tensor_on c who j).legs
IsPutFault c who j t Put.Flux = (t.legs ≡ (tensor_on c who j).legs) × (t.flux ≢ (tensor_on c who j).flux)
IsPutFault c who j t (Put.Passed step at offset) =
    (t.legs ≡ (tensor_on c who j).legs) × (t.flux ≡ (tensor_on c who j).flux)
    × ((net : NetworkValue) → IsNetworkOf (with_site c who j t) net → passing_place net ≡ Some (record { step = step; tuple = at; offset = offset }))
IsPutFault c who j t Put.Memory = Unit {0}

-- what the expectation costs, and what its steps from the first that touches site j on cost

abbrev pub IsCost : CorrValue → ℕ → Type 0
IsCost c k = (net : NetworkValue) → IsNetworkOf c net → cost_of_plan net ≡ k

abbrev pub IsRest : CorrValue → ℕ → ℕ → Type 0
IsRest c j k = (net : NetworkValue) → IsNetworkOf c net → rest_cost net (length c.bra.tensors) j ≡ k

-- why the steps do not go to their end after tensors were replaced: the first place at which one passes; or memory was wanting
abbrev pub IsPassingFault : CorrValue → PutFault → Type 0
IsPassingFault c Put.Legs = ⊥
IsPassingFault c Put.Flux = ⊥
IsPassingFault c (Put.Passed step at offset) = (net : NetworkValue) → IsNetworkOf c net → passing_place net ≡ Some (record { step = step; tuple = at; offset = offset })
IsPassingFault c Put.Memory = Unit {0}

-- the chains are the same but for the tensors of site j, whose legs and fluxes stay
pub record IsChanged (j : ℕ) (old new : CorrValue) : Type 0 where
  pub group : new.bra.group ≡ old.bra.group
  pub op : new.op ≡ old.op
  pub bra : IsPut j old.bra.tensors new.bra.tensors
  pub ket : IsPut j old.ket.tensors new.ket.tensors

-- what a correlator keeps: the plan of its expectation, which is clear, the tensors of the sites before the second, before the third, .., before the last, and the value
pub record IsKept (c : CorrValue) (plan : List StepValue) (kept : List PartValue) (result : Gaussian) : Type 0 where
  pub matched : AreMatched c.bra c.op c.ket
  pub net : NetworkValue
  pub network : IsNetworkOf c net
  pub formed : IsWellFormed net
  pub plan_is : plan ≡ planned net
  pub narrow : first_wide net ≡ None
  pub clear : passing_place net ≡ None
  pub count : length kept + 1 ≡ length c.bra.tensors
  pub environments : AreEnvironments net (length c.bra.tensors) 1 kept
  pub result_is : result ≡ value net []
