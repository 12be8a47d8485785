-- A network in a document: its form, its first fault, and what it stands for.
-- Source: NCON, arXiv:1402.0939.
use Rattle.std.specs.Prelude.{◌≡◌, ◌⊎◌, ◌<◌, ◌≤◌, ℕ, ℤ, List, [], length, map, Bool, true, not, ◌&&◌, ◌||◌, ◌==◌, nat_lt, Option, Some, None, option_map, unwrap_or, codes, Result, Ok, Err}
use Rattle.std.specs.Option.{IsSomeAnd}
use Rattle.serde_json.specs.Data.{Data}
use Rattle.serde_json.specs.Find.{get}
use Rattle.qn_net.specs.Members.{LabelledMember}
use Rattle.qn_net.specs.NetworkValues.{NetworkValue}
use Rattle.qn_net.specs.Refusals.{IsFaultless, IsNetFault, network_of}
use Rattle.qn_net.specs.declared.fault.NetFault.{NetFault}
use Rattle.qn_parts.specs.declared.fault.Fault.{Fault}
use Rattle.qn_parts.specs.declared.fault.DocFault.{DocFault}
use Rattle.qn_parts.specs.declared.fault.DocFault.TheVariants.{Bad, Memory}
use Rattle.qn_parts.specs.Faults.{fault, fault_if, first_of, ◌then◌}
use Rattle.qn_json.specs.Forms.{has, is_list, are_numbers}
use Rattle.qn_json.specs.Tree.{tree_of, items, member_of}
use Rattle.qn_parts.specs.Groups.{is_group, group_fault}
use Rattle.qn_parts.specs.Documents.{has_version, group_data, factors_of, text_fault}
use Rattle.qn_doc.specs.LabelFaults.{placed}
use Rattle.qn_doc.specs.Members.{is_member, numbers_of, labelled_of, member_fault}
use Rattle.qn_doc.specs.declared.networks.AnyNet.{AnyNet}
use Rattle.qn_doc.specs.declared.networks.AnyNet.TheVariants.{N0, N1, N2, N3, N4}

-- ---- the form

-- there is no order, or it is a list of whole numbers
abbrev pub has_order : Data → Bool
has_order d = unwrap_or (option_map are_numbers (get (codes "order") d)) true

-- no label is said to be twisted, or it is a list of whole numbers that says which are
abbrev pub has_twist : Data → Bool
has_twist d = unwrap_or (option_map are_numbers (get (codes "twist") d)) true

-- {"group":group,"tensors":[member,..]}, and where wanted "order":[whole,..] and "twist":[whole,..]
unfoldable pub is_network_document : Data → Bool
is_network_document d =
    has_version d && (has is_group (get (codes "group") d) && (has (is_list (is_member (length (group_data d)))) (get (codes "tensors") d) && (has_order d && has_twist d)))

-- ---- what it stands for

abbrev pub members_data : Data → List Data
members_data d = items (member_of (codes "tensors") d)

-- the members that are meant
abbrev pub members_of : Data → List LabelledMember
members_of d = map (labelled_of (factors_of d)) (members_data d)

-- the order, where one is given
abbrev pub order_of : Data → Option (List ℤ)
order_of d = option_map numbers_of (get (codes "order") d)

-- the twisted labels, none where none are given
abbrev pub twist_of : Data → List ℤ
twist_of d = unwrap_or (option_map numbers_of (get (codes "twist") d)) []

-- the network that the tree means: its members have no fault of labels, arrows, sectors, order or twisted labels
pub record IsNetworkOf (d : Data) (net : NetworkValue) : Type 0 where
  pub is : net ≡ network_of (factors_of d) (members_of d) (order_of d) (twist_of d)
  pub faultless : IsFaultless (members_of d) (order_of d) (twist_of d)

-- ---- its first fault

-- F7: no tensor or more than 256
abbrev pub count_fault : Data → Option Fault
count_fault d = fault_if (length (members_data d) == 0 || nat_lt 256 (length (members_data d))) (fault 7 0 0 0)

-- 1 to 256 members
pub record IsCounted (d : Data) : Type 0 where
  pub some : 0 < length (members_data d)
  pub few : length (members_data d) ≤ 256

-- F3 over the whole tree, then the faults of the group, then F7
abbrev pub head_fault : Data → Option Fault
head_fault d = fault_if (not (is_network_document d)) (fault 3 0 0 0) then group_fault (group_data d) then count_fault d

-- F8 to F19, member by member
abbrev pub members_fault : Data → Option Fault
members_fault d = first_of (member_fault (factors_of d)) (members_data d)

-- F3 to F19
abbrev pub parts_fault : Data → Option Fault
parts_fault d = head_fault d then members_fault d

-- the first fault of the labels, the order and the twisted labels
abbrev pub IsLabelFault : Data → Fault → Type 0
IsLabelFault d f = (e : NetFault) × (placed e ≡ Some f) × IsNetFault (members_of d) (order_of d) (twist_of d) e

-- ---- what a reader answers

-- what an error says: Bad carries the first fault, one of the parts or, where these have none, one of the labels, the order and the twisted labels; want of memory is free
abbrev pub FailsBy : Option Fault → (Fault → Type 0) → DocFault → Type 0
FailsBy first Later (Bad f) = (first ≡ Some f) ⊎ ((first ≡ None) × Later f)
FailsBy first Later Memory = Unit {0}

-- Ok exactly where there is no fault, and then with the network that is meant
abbrev pub ReadsBy : {T : Type 0} → Option Fault → (Fault → Type 0) → (T → Type 0) → Result T DocFault → Type 0
ReadsBy first Later P (Ok value) = (first ≡ None) × P value
ReadsBy first Later P (Err e) = FailsBy first Later e

-- the network, for any number of factors
abbrev pub any_network : AnyNet → NetworkValue
any_network (N0 net) = net
any_network (N1 net) = net
any_network (N2 net) = net
any_network (N3 net) = net
any_network (N4 net) = net

-- the first fault of the bytes: F1, F2, then F3 to F19
abbrev pub bytes_fault : List ℕ → Option Fault
bytes_fault bytes = text_fault parts_fault bytes

-- F20 to F26 and F36, in the tree of the bytes
abbrev pub IsLabelFaultIn : List ℕ → Fault → Type 0
IsLabelFaultIn bytes f = IsSomeAnd (tree_of bytes) (λ d. IsLabelFault d f)

-- the network that the bytes mean
abbrev pub IsNetworkIn : List ℕ → AnyNet → Type 0
IsNetworkIn bytes any = IsSomeAnd (tree_of bytes) (λ d. IsNetworkOf d (any_network any))
