-- Networks no step of which has a result that is too wide: what holds of the groups of their tensors on the way through the steps.
use Rattle.std.specs.Prelude.{◌≡◌, ◌≤◌, ℕ, None, List, ◌∷◌, ◌++◌, length, map}
use Rattle.std.specs.List.{All}
use Rattle.qn_value.specs.Networks.{Bond, labels}
use Rattle.qn_net.specs.Groups.{TensorGroup}
use Rattle.qn_net.specs.Steps.{Step as GroupStep}
use Rattle.qn_net.specs.Steps.Step.{pair}
use Rattle.qn_net.specs.Members.{LabelledMember, placed_member, IsMemberOf, IsHeld}
use Rattle.qn_net.specs.NetworkValues.{NetworkValue, IsWellFormed, sectors, steps}
use Rattle.qn_plan.specs.Shapes.{shape_of}
use Rattle.qn_plan.specs.Planned.{first_wide}
use Rattle.qn_plan.specs.Conditions.{CanCost}
use Rattle.qn_plan.specs.Reached.{AreFitting, member_count, state_after}

-- a network of at most 256 members within the limits, no step of which has a result that is too wide
pub record IsNarrowNetwork (net : NetworkValue) : Type 0 where
  pub formed : IsWellFormed net
  pub members : List LabelledMember
  pub placed : map placed_member members ≡ net.members
  pub each : All (IsMemberOf net.group) members
  pub held : All (λ m. IsHeld m.member) members
  pub few : length members ≤ 256
  pub narrow : first_wide net ≡ None

-- after any of the steps the groups are within the limits
abbrev pub GroupsWithinLimits : Type 0
GroupsWithinLimits =
    (net : NetworkValue) → IsNarrowNetwork net → (done rest : List GroupStep) → steps net ≡ done ++ rest →
    AreFitting net.group (sectors net) (state_after net done).groups × (member_count (state_after net done).groups ≤ 256)

-- and the two groups of a pair step can be contracted
abbrev pub PairsWithinLimits : Type 0
PairsWithinLimits =
    (net : NetworkValue) → IsNarrowNetwork net → (done rest : List GroupStep) (before : List TensorGroup) (g : TensorGroup) (between : List TensorGroup) (h : TensorGroup) (behind : List TensorGroup) (bonds left : List Bond) →
    steps net ≡ done ++ (pair before g between h behind bonds left ∷ rest) →
    CanCost net.group (shape_of net.group (sectors net) g) (shape_of net.group (sectors net) h) (labels bonds)
