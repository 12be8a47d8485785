-- How far a plan has come: the steps so far, and what holds of the groups that they made.
use Rattle.std.specs.Prelude.{◌≡◌, ◌≤◌, ◌^◌, ◌*◌, ◌+◌, ℕ, ℤ, None, List, [], ◌∷◌, ◌++◌, length, map, All}
use Rattle.qn_charge.specs.declared.factor.Factor.{Factor}
use Rattle.qn_charge.specs.Charges.{IsWithin}
use Rattle.qn_index.specs.Legs.{SectorValue, IsSound, IsLegOf}
use Rattle.qn_index.specs.Extents.{IsWithinLimits}
use Rattle.qn_value.specs.Blocks.{legs_on}
use Rattle.qn_net.specs.Groups.{TensorGroup, flux_of}
use Rattle.qn_net.specs.Steps.{Step as GroupStep, State, carry}
use Rattle.qn_net.specs.Plans.{plan}
use Rattle.qn_net.specs.Carried.{AllSound}
use Rattle.qn_net.specs.NetworkValues.{NetworkValue, parities, sectors, opens, begin, steps}
use Rattle.qn_plan.specs.Shapes.{WalkValue, walk_of}
use Rattle.qn_plan.specs.Planned.{StepValue, planned_step, first_wide_from}

-- the legs of a group are legs of its group of charges, its shape is not too wide, and its flux grows at most with the number of its tensors
pub record IsFitting (fs : List Factor) (sectors : ℤ → List SectorValue) (g : TensorGroup) : Type 0 where
  pub sound : All IsSound (legs_on sectors g.node.ends)
  pub charges : All (IsLegOf fs) (legs_on sectors g.node.ends)
  pub flux : IsWithin (length g.members * 2 ^ 41) fs (flux_of fs g)
  pub narrow : IsWithinLimits fs (legs_on sectors g.node.ends) (flux_of fs g)

abbrev pub AreFitting : List Factor → (ℤ → List SectorValue) → List TensorGroup → Type 0
AreFitting fs sectors [] = Unit {0}
AreFitting fs sectors (g ∷ gs) = IsFitting fs sectors g × AreFitting fs sectors gs

-- the number of all tensors of the groups
abbrev pub member_count : List TensorGroup → ℕ
member_count [] = 0
member_count (g ∷ gs) = length g.members + member_count gs

-- the state after these steps
abbrev pub state_after : NetworkValue → List GroupStep → State
state_after net done = carry (parities net) done (begin net)

-- some steps of the network are planned, none with a result that is too wide; the shapes and labels are those of the state after them, and the labels of `rest` are still to be taken
pub record IsReached (net : NetworkValue) (rest : List ℤ) (list : List StepValue) (w : WalkValue) : Type 0 where
  pub done : List GroupStep
  pub planned : list ≡ map (planned_step net) done
  pub narrow : first_wide_from net 1 done ≡ None
  pub steps : steps net ≡ done ++ plan (parities net) rest (state_after net done)
  pub sound : AllSound (parities net) (opens net) (plan (parities net) rest (state_after net done)) (state_after net done)
  pub walk : w ≡ walk_of net.group (sectors net) (state_after net done)
  pub fitting : AreFitting net.group (sectors net) (state_after net done).groups
  pub members : member_count (state_after net done).groups ≤ 256
  pub cheap : All (λ t. t.cost ≤ 2 ^ 44) list
  pub few : length list + (length w.left + length w.shapes) ≤ 8448
