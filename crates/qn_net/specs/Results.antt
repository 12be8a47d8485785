-- Tensors that are told to be the result of a step by their legs, their flux and their entries.
use Rattle.std.specs.Prelude.{◌≡◌, ℕ, ℤ, List, ◌++◌}
use Rattle.qn_charge.specs.declared.factor.Factor.{Factor}
use Rattle.qn_charge.specs.Charges.{sum_charge}
use Rattle.qn_index.specs.Legs.{SectorValue}
use Rattle.qn_value.specs.Networks.{End, Bond, Parities}
use Rattle.qn_value.specs.Tensors.{TensorValue, IsTensor, entry_of}
use Rattle.qn_value.specs.Labels.{Placed}
use Rattle.qn_block.specs.Blocked.{MeetFlux}
use Rattle.qn_net.specs.Groups.{TensorGroup, flux_of}
use Rattle.qn_net.specs.Steps.{Step, State, result, IsStepAt}
use Rattle.qn_net.specs.Steps.Step.{pair}
use Rattle.qn_net.specs.Carried.{IsSoundState}
use Rattle.qn_net.specs.Passing.{result_legs}
use Rattle.qn_net.specs.Operations.{parities_on, labels_left, IsTensorOf}

-- a pair step: the fluxes of the two tensors add up to that of the result; and a tensor with the legs and the flux of the result that has its entries at all values that meet the flux is the tensor of the result
abbrev pub ResultTensorLaw : Type 0
ResultTensorLaw =
    (fs : List Factor) (sectors : ℤ → List SectorValue) (opens : List End) (s : State)
    (before : List TensorGroup) (g : TensorGroup) (between : List TensorGroup) (h : TensorGroup) (behind : List TensorGroup) (bonds left : List Bond)
    (p q : Placed) →
    let par : Parities = parities_on fs sectors in
    let t : Step = pair before g between h behind bonds left in
    IsSoundState par opens s → IsStepAt s t → IsTensorOf fs sectors p g → IsTensorOf fs sectors q h →
    (sum_charge fs p.tensor.flux q.tensor.flux ≡ flux_of fs (result par t))
    × ((r : TensorValue) → IsTensor r → r.group ≡ fs → r.legs ≡ result_legs par sectors t → r.flux ≡ flux_of fs (result par t) →
    ((xs : List ℕ) → MeetFlux fs r.legs r.flux xs → entry_of r xs ≡ (result par t).node.entry xs) →
    IsTensorOf fs sectors (record { tensor = r; labels = labels_left (p.labels ++ q.labels) bonds }) (result par t))
