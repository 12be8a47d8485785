-- Networks as they are given: tensors with a label on each leg, an order of the positive labels, and twisted labels.
-- NCON, arXiv:1402.0939; twisted labels are this project's own.
use Rattle.std.specs.Prelude.{◌≡◌, ◌<◌, ℕ, suc, ℤ, pos, true, ◌&&◌, not, Option, List, [], ◌∷◌, length, map, count_by, int_lt, slice_index_or}
use Rattle.std.specs.Ordering.{int_eq}
use Rattle.qn_sign.specs.Sign.{is_in, IsDistinct}
use Rattle.qn_gauss.specs.Gaussian.{Gaussian}
use Rattle.qn_charge.specs.declared.factor.Factor.{Factor}
use Rattle.qn_charge.specs.Charges.{IsGroup}
use Rattle.qn_index.specs.Legs.{SectorValue}
use Rattle.qn_value.specs.Networks.{End, Bond, Parities, same_end, moved}
use Rattle.qn_value.specs.Labels.{Placed, Slot, AllPlaced, slots, ends, node_of, sectors_on, parity_of, is_positive, bonds_of, opens_of, value_of, IsUniform, IsWellLabelled}
use Rattle.qn_net.specs.Groups.{Role, Member, TensorGroup}
use Rattle.qn_net.specs.Steps.{Step, State, carry}
use Rattle.qn_net.specs.Plans.{plan, first_state}
use Rattle.qn_net.specs.Parts.{part}
use Rattle.qn_net.specs.Carried.{AllSound}
use Rattle.qn_net.specs.Passing.{StepPlace, first_passing_step, first_admissible_step}

-- a member of a network: a tensor with a label on each leg, and what it stands for
pub record PlacedMember : Type 0 where
  pub placed : Placed
  pub role : Role

-- a network: the group of its charges, its members, the order of the positive labels, and the twisted labels
pub record NetworkValue : Type 0 where
  pub group : List Factor
  pub members : List PlacedMember
  pub order : List ℤ
  pub twists : List ℤ

-- the tensors with their labels
abbrev pub placed : NetworkValue → List Placed
placed net = map (λ m. m.placed) net.members

-- the legs of all tensors, each with its label
abbrev pub legs_of : NetworkValue → List Slot
legs_of net = slots (placed net)

-- the parity of each value of each line
abbrev pub parities : NetworkValue → Parities
parities net = parity_of net.group (legs_of net)

-- the sectors of each line
abbrev pub sectors : NetworkValue → ℤ → List SectorValue
sectors net = sectors_on (legs_of net)

-- the lines that are summed over: the positive labels, ascending
abbrev pub bonds : NetworkValue → List Bond
bonds net = bonds_of net.twists (legs_of net)

-- how many legs have no positive label
abbrev pub open_count : List End → ℕ
open_count es = count_by (λ e. not (is_positive e.label)) es

-- the open legs -1, -2, ..
abbrev pub opens : NetworkValue → List End
opens net = opens_of (ends (legs_of net)) (open_count (ends (legs_of net)))

-- the value of the network at values of its open legs
abbrev pub value : NetworkValue → List ℕ → Gaussian
value net xs = value_of net.group (placed net) net.twists (open_count (ends (legs_of net))) xs

-- the member by its ends, its entries, its flux and its role
abbrev pub member_of : PlacedMember → Member
member_of m = record { node = node_of m.placed; flux = m.placed.tensor.flux; role = m.role }

-- before the first step each member is a group of its own
abbrev pub begin : NetworkValue → State
begin net = first_state (map member_of net.members) (bonds net)

-- the steps of the network, by its order
abbrev pub steps : NetworkValue → List Step
steps net = plan (parities net) net.order (begin net)

-- the first passing place of the network: by the parts of its groups, over all places of each step's result
abbrev pub passing_place : NetworkValue → Option StepPlace
passing_place net = first_passing_step (parities net) (sectors net) (part (parities net)) 1 (steps net)

-- the order names each positive label that stands in the network, once
pub record IsOrderOf (es : List End) (order : List ℤ) : Type 0 where
  pub distinct : IsDistinct int_eq order
  pub positive : (l : ℤ) → is_in int_eq l order ≡ (is_positive l && is_in same_end (record { label = l; inward = true }) es)

-- what holds of each network: some tensors of its group, each with a label on every leg; labels that pair up legs which meet, and number the open legs;
-- an order of the positive labels, and ascending twisted labels that are among these
pub record IsWellFormed (net : NetworkValue) : Type 0 where
  pub group : IsGroup net.group
  pub some : 0 < length net.members
  pub placed : AllPlaced net.group (placed net)
  pub labelled : IsWellLabelled (ends (legs_of net)) (open_count (ends (legs_of net)))
  pub uniform : IsUniform (legs_of net)
  pub order : IsOrderOf (ends (legs_of net)) net.order
  pub twists : (l : ℤ) → is_in int_eq l net.twists ≡ true → is_in int_eq l net.order ≡ true
  pub ascending : (i : ℕ) → suc i < length net.twists → int_lt (slice_index_or net.twists i (pos 0)) (slice_index_or net.twists (suc i) (pos 0)) ≡ true

-- whatever the order, carrying out the steps leaves one tensor, which in the order of the open legs has the value of the network;
-- on the way each state is sound and each step is one of its state
abbrev pub NetworkValueLaw : Type 0
NetworkValueLaw =
    (net : NetworkValue) → IsWellFormed net →
    AllSound (parities net) (opens net) (steps net) (begin net)
    × ((last : TensorGroup) × (carry (parities net) (steps net) (begin net) ≡ record { groups = last ∷ []; left = [] })
    × ((xs : List ℕ) → value net xs ≡ (moved (parities net) last.node (opens net)).entry xs))

-- the first passing place is found by the tensors that the steps made, over the admissible tuples of each step's result
abbrev pub NetworkPassingLaw : Type 0
NetworkPassingLaw = (net : NetworkValue) → IsWellFormed net → passing_place net ≡ first_admissible_step (parities net) net.group (sectors net) 1 (steps net)
