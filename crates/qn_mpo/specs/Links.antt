-- Links as the program holds them.
use Rattle.std.specs.Prelude.{◌≡◌, ◌<◌, ℕ, suc, List, [], length, map, slice_index_or}
use Rattle.qn_index.specs.Extents.{IsTooWide}
use Rattle.qn_index.specs.Legs.{LegValue}
use Rattle.qn_opsum.specs.Sums.{SumValue}
use Rattle.qn_block.specs.Blocked.{BlockedValue}
use Rattle.qn_auto.specs.SumAutomaton.{HasShapeAt, flux_at, legs_at, link_leg, states, tensor_at}
use Rattle.qn_mpo.specs.States.{StateValue, with_charge}
use Rattle.qn_mpo.specs.declared.fault.BuildFault.{BuildFault}
use Rattle.qn_mpo.specs.declared.fault.BuildFault.TheVariants.{Wide, Passed, Memory}

-- a link: its states and its leg
pub record LinkValue : Type 0 where
  pub states : List StateValue
  pub leg : LegValue

-- the link right of site j
abbrev pub link_value : SumValue → ℕ → LinkValue
link_value v j = record { states = map (with_charge v) (states v j); leg = link_leg v j }

-- why there is no link right of site j: it has more than 64 charges
abbrev pub IsLinkFault : SumValue → ℕ → BuildFault → Type 0
IsLinkFault v j (Wide site) = (site ≡ suc j) × (64 < length (link_leg v j).sectors)
IsLinkFault v j (Passed site) = ⊥
IsLinkFault v j Memory = Unit {0}

-- why there is no tensor of site j: its shape is too wide
abbrev pub IsShapeStop : SumValue → ℕ → BuildFault → Type 0
IsShapeStop v j (Wide site) = (site ≡ suc j) × IsTooWide v.group (legs_at v j) (flux_at v j)
IsShapeStop v j (Passed site) = ⊥
IsShapeStop v j Memory = Unit {0}

-- the links right of the first n sites
pub record AreLinks (v : SumValue) (n : ℕ) (ls : List LinkValue) : Type 0 where
  pub count : length ls ≡ n
  pub links : (j : ℕ) (d : LinkValue) → j < n → slice_index_or ls j d ≡ link_value v j

-- the tensors of the first n sites, without blocks
pub record AreEmpty (v : SumValue) (n : ℕ) (ts : List BlockedValue) : Type 0 where
  pub count : length ts ≡ n
  pub shapes : (j : ℕ) → j < n → HasShapeAt v j (tensor_at ts j)
  pub empty : (j : ℕ) → j < n → (tensor_at ts j).blocks ≡ []
