-- What the commands on networks come to: the value as a tensor, the plan, or what may stand in their place.
use Rattle.std.specs.Prelude.{◌≡◌, ◌⊎◌, ℕ, ℤ, List, filter, map, None, Some}
use Rattle.std.specs.Option.{IsSomeAnd}
use Rattle.qn_index.specs.Legs.{LegValue}
use Rattle.qn_index.specs.Tuples.{admitted}
use Rattle.qn_value.specs.Blocks.{legs_on}
use Rattle.qn_value.specs.Fluxes.{sum_flux}
use Rattle.qn_value.specs.Magnitudes.{all_blocks}
use Rattle.qn_block.specs.Blocked.{BlockedValue, is_filled}
use Rattle.qn_net.specs.NetworkValues.{NetworkValue, sectors, opens, value, passing_place}
use Rattle.qn_plan.specs.Planned.{planned, first_wide}
use Rattle.qn_parts.specs.declared.fault.Fault.{Fault}
use Rattle.qn_parts.specs.Faults.{fault}
use Rattle.qn_parts.specs.TensorTexts.{tensor_text}
use Rattle.qn_json.specs.Tree.{tree_of}
use Rattle.qn_doc.specs.Networks.{IsNetworkOf, bytes_fault, IsLabelFaultIn}
use Rattle.qn_texts.specs.PlanTexts.{plan_text}
use Rattle.qn_cli.specs.Outcomes.{Outcome, refused, passed, answered}

-- the network that the bytes say, which has none of the faults F1 to F26
pub record IsNetworkIn (bytes : List ℕ) (net : NetworkValue) : Type 0 where
  pub faultless : bytes_fault bytes ≡ None
  pub network : IsSomeAnd (tree_of bytes) (λ d. IsNetworkOf d net)

-- the first of the faults F1 to F26: of the bytes, the tree and the members; and where these have none, of the labels and the order
abbrev pub IsBytesFault : List ℕ → Fault → Type 0
IsBytesFault bytes f = (bytes_fault bytes ≡ Some f) ⊎ ((bytes_fault bytes ≡ None) × IsLabelFaultIn bytes f)

-- F27: the first step whose result is too wide
abbrev pub IsWideStep : NetworkValue → Fault → Type 0
IsWideStep net f = (step : ℕ) × (first_wide net ≡ Some step) × (f ≡ fault 27 0 step 0)

-- no step is too wide, and the first passing place of the network is this one
abbrev pub IsPassingPlace : NetworkValue → ℕ → List ℕ → ℕ → Type 0
IsPassingPlace net step at offset = (first_wide net ≡ None) × (passing_place net ≡ Some (record { step = step; tuple = at; offset = offset }))

-- the first fault of a document of a network
abbrev pub IsFirstFault : List ℕ → Fault → Type 0
IsFirstFault bytes f = IsBytesFault bytes f ⊎ ((net : NetworkValue) × IsNetworkIn bytes net × IsWideStep net f)

-- the value of a network as a tensor: its legs are the open ones -1, -2, .., its flux is the sum of all fluxes, and its blocks are those of the network's values that are not all zeros
abbrev pub value_tensor : NetworkValue → BlockedValue
value_tensor net =
    let legs : List LegValue = legs_on (sectors net) (opens net) in
    let flux : List ℤ = sum_flux net.group (map (λ m. m.placed.tensor.flux) net.members) in
    record { group = net.group; legs = legs; flux = flux; blocks = filter is_filled (all_blocks (value net) legs (admitted net.group legs flux)) }

-- the value of the network that the bytes say, or their first fault, or the first step that passes
abbrev pub Contracts : List ℕ → Outcome → Type 0
Contracts bytes (refused f) = IsFirstFault bytes f
Contracts bytes (passed step at offset) =
    (net : NetworkValue) × IsNetworkIn bytes net × IsPassingPlace net step at offset
Contracts bytes (answered text) = (net : NetworkValue) × IsNetworkIn bytes net × (first_wide net ≡ None) × (passing_place net ≡ None) × (text ≡ tensor_text (value_tensor net))

-- the plan of the network that the bytes say, or their first fault
abbrev pub Plans : List ℕ → Outcome → Type 0
Plans bytes (refused f) = IsFirstFault bytes f
Plans bytes (passed step at offset) = ⊥
Plans bytes (answered text) = (net : NetworkValue) × IsNetworkIn bytes net × (first_wide net ≡ None) × (text ≡ plan_text (planned net))
