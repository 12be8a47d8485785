-- Members of a network, as they are held.
use Rattle.std.specs.Prelude.{◌≡◌, ◌≤◌, ◌^◌, ◌==◌, ℕ, ℤ, Bool, false, not, List, [], length, map, slice_index_or}
use Rattle.qn_charge.specs.declared.factor.Factor.{Factor}
use Rattle.qn_charge.specs.Charges.{IsWithin, zero_charge}
use Rattle.qn_index.specs.declared.leg.Dir.TheVariants.{Out}
use Rattle.qn_index.specs.Legs.{LegValue}
use Rattle.qn_index.specs.Tuples.{IsFlux}
use Rattle.qn_index.specs.Extents.{IsWithinLimits}
use Rattle.qn_value.specs.Tensors.{TensorValue, IsTensor}
use Rattle.qn_value.specs.Networks.{End}
use Rattle.qn_value.specs.Labels.{Slot, slots, ends}
use Rattle.qn_block.specs.Blocked.{BlockedValue, IsBlocked, tensor_of}
use Rattle.qn_block.specs.Combiners.{CombinerValue, IsCombiner}
use Rattle.qn_block.specs.Tables.{fuse_tensor, fuse_legs, split_tensor, split_legs}
use Rattle.qn_net.specs.declared.member.Member.{Member}
use Rattle.qn_net.specs.declared.member.Member.TheVariants.{Tensor, Fuse, Split}
use Rattle.qn_net.specs.declared.member.MemberRole.{MemberRole}
use Rattle.qn_net.specs.declared.member.MemberRole.TheVariants.{Plain, FuseTable, SplitTable}
use Rattle.qn_net.specs.Groups.{Role}
use Rattle.qn_net.specs.Groups.Role.{tensor, fuse_table, split_table}
use Rattle.qn_net.specs.NetworkValues.{PlacedMember}

-- a member: a tensor of its own, or the fuse table or the split table of a combiner
pub data MemberValue : Type 0 where
  own : BlockedValue → MemberValue
  fuse : CombinerValue → MemberValue
  split : CombinerValue → MemberValue

abbrev pub member_value : (K : ℕ) → Member K → MemberValue
member_value K (Tensor t) = own t
member_value K (Fuse c) = fuse c
member_value K (Split c) = split c

-- a member with a label on each leg
pub record LabelledMember : Type 0 where
  pub member : MemberValue
  pub labels : List ℤ

-- the tensor that the member stands for, by its single entries
abbrev pub member_tensor : MemberValue → TensorValue
member_tensor (own t) = tensor_of t
member_tensor (fuse c) = fuse_tensor c
member_tensor (split c) = split_tensor c

abbrev pub role_of : MemberValue → Role
role_of (own t) = tensor
role_of (fuse c) = fuse_table
role_of (split c) = split_table

-- a role, as the code names it
abbrev pub role_value : MemberRole → Role
role_value Plain = tensor
role_value FuseTable = fuse_table
role_value SplitTable = split_table

abbrev pub placed_member : LabelledMember → PlacedMember
placed_member m = record { placed = record { tensor = member_tensor m.member; labels = m.labels }; role = role_of m.member }

abbrev pub no_leg : LegValue
no_leg = record { arrow = Out; sectors = [] }

abbrev pub no_member : LabelledMember
no_member = record { member = own (record { group = []; legs = []; flux = []; blocks = [] }); labels = [] }

abbrev pub member_at : List LabelledMember → ℕ → LabelledMember
member_at ms i = slice_index_or ms i no_member

-- all legs, member by member, each with its label
abbrev pub slots_of_members : List LabelledMember → List Slot
slots_of_members ms = slots (map (λ m. (placed_member m).placed) ms)

-- which end of which line each leg is
abbrev pub ends_of_members : List LabelledMember → List End
ends_of_members ms = ends (slots_of_members ms)

-- the j-th leg of the member
abbrev pub leg_at : LabelledMember → ℕ → LegValue
leg_at m j = slice_index_or (member_tensor m.member).legs j no_leg

-- what holds of each member
abbrev pub IsHeld : MemberValue → Type 0
IsHeld (own t) = IsBlocked t
IsHeld (fuse c) = IsCombiner c
IsHeld (split c) = IsCombiner c

-- the table of a combiner is not too wide
abbrev pub IsNarrow : MemberValue → Type 0
IsNarrow (own t) = Unit {0}
IsNarrow (fuse c) = IsWithinLimits c.group (fuse_legs c.group c.legs c.arrow) (zero_charge c.group)
IsNarrow (split c) = IsWithinLimits c.group (split_legs c.group c.legs c.arrow) (zero_charge c.group)

-- a member for a network over this group: at most 32 legs, a flux with U(1) parts of size at most 2^41, and no table that is too wide
pub record IsMemberOf (fs : List Factor) (m : LabelledMember) : Type 0 where
  pub group : (member_tensor m.member).group ≡ fs
  pub few : length (member_tensor m.member).legs ≤ 32
  pub flux : IsWithin (2 ^ 41) fs (member_tensor m.member).flux
  pub narrow : IsNarrow m.member

-- whether the k-th leg of a table is a flipped leg of the combiner
abbrev pub is_flipped : MemberValue → ℕ → Bool
is_flipped (own t) k = false
is_flipped (fuse c) k = not (k == 0)
is_flipped (split c) k = k == length c.legs

-- the legs and the flux of a member's tensor are those of a tensor within the limits
pub record HasShape (t : TensorValue) : Type 0 where
  pub tensor : IsTensor t
  pub flux : IsFlux t.group t.flux
  pub shape : IsWithinLimits t.group t.legs t.flux

-- the tensor that a member of a network stands for
abbrev pub MemberLaw : Type 0
MemberLaw = (fs : List Factor) (m : LabelledMember) → IsHeld m.member → IsMemberOf fs m → HasShape (member_tensor m.member)
