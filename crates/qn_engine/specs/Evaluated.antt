-- What a network is worth as a tensor, and why it has no value.
-- NCON, arXiv:1402.0939; the sign by the exchange rule of super vector spaces.
use Rattle.std.specs.Prelude.{◌≡◌, ℕ, Some, None, List, map, true}
use Rattle.std.specs.List.{All}
use Rattle.qn_index.specs.Places.{IsValues}
use Rattle.qn_value.specs.Tensors.{entry_of}
use Rattle.qn_value.specs.Blocks.{legs_on}
use Rattle.qn_value.specs.Fluxes.{sum_flux}
use Rattle.qn_block.specs.Blocked.{BlockedValue, tensor_of, is_filled}
use Rattle.qn_net.specs.NetworkValues.{NetworkValue, sectors, opens, value, passing_place}
use Rattle.qn_plan.specs.Planned.{first_wide}
use Rattle.qn_engine.specs.declared.fault.EngineFault.{EngineFault}
use Rattle.qn_engine.specs.declared.fault.EngineFault.TheVariants.{Wide, Passed, Memory}

-- the tensor is the value of the network: its legs are the open ones -1, -2, .., its flux is the sum of all fluxes, and each entry is the network's value there
pub record IsValueOf (net : NetworkValue) (t : BlockedValue) : Type 0 where
  pub group : t.group ≡ net.group
  pub legs : t.legs ≡ legs_on (sectors net) (opens net)
  pub flux : t.flux ≡ sum_flux net.group (map (λ m. m.placed.tensor.flux) net.members)
  pub entries : (xs : List ℕ) → IsValues t.legs xs → entry_of (tensor_of t) xs ≡ value net xs

-- no block of the tensor is all zeros
abbrev pub IsCanonicalTensor : BlockedValue → Type 0
IsCanonicalTensor t = All (λ b. is_filled b ≡ true) t.blocks

-- why a network has no value: the first step whose result is too wide; where there is none, the first place of a step's result at which the sum of magnitudes passes; or memory was wanting
abbrev pub IsEngineFault : NetworkValue → EngineFault → Type 0
IsEngineFault net (Wide step) = first_wide net ≡ Some step
IsEngineFault net (Passed step at offset) = (first_wide net ≡ None) × (passing_place net ≡ Some (record { step = step; tuple = at; offset = offset }))
IsEngineFault net Memory = Unit {0}
