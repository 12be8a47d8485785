-- What is written is read again: the text of a network means its members, its labels, its order and its twisted labels.
use Rattle.std.specs.Prelude.{◌≡◌, ◌≤◌, ◌<◌, ◌^◌, ℕ, ℤ, unsigned_abs, true, false, List, [], ◌∷◌, length, map, None, Some, Result, Ok, Err}
use Rattle.std.specs.List.{All}
use Rattle.qn_charge.specs.declared.factor.Factor.{Factor}
use Rattle.qn_charge.specs.Charges.{IsGroup}
use Rattle.qn_block.specs.Combiners.{IsCombiner}
use Rattle.qn_value.specs.Tensors.{TensorValue, entry_of}
use Rattle.qn_net.specs.Members.{MemberValue, LabelledMember}
use Rattle.qn_net.specs.Members.MemberValue.{own, fuse, split}
use Rattle.qn_net.specs.NetworkValues.{PlacedMember, NetworkValue, IsWellFormed}
use Rattle.qn_net.specs.Refusals.{IsLabel}
use Rattle.qn_parts.specs.declared.fault.DocFault.{DocFault}
use Rattle.qn_parts.specs.declared.fault.DocFault.TheVariants.{Bad, Memory}
use Rattle.qn_parts.specs.Documents.{factors_of}
use Rattle.qn_doc.specs.Combiners.{IsTable}
use Rattle.qn_doc.specs.declared.networks.AnyNet.{AnyNet}
use Rattle.qn_doc.specs.Networks.{members_of, order_of, twist_of, parts_fault, ReadsBy, any_network, bytes_fault, IsLabelFaultIn, IsNetworkIn}
use Rattle.qn_doc.specs.NetworkTexts.{network_data, IsTextOf}
use Rattle.qn_doc.specs.TensorsReadBack.{IsPrintable, canonical}

-- a label that a document can hold
abbrev pub IsNumber : ℤ → Type 0
IsNumber l = unsigned_abs l < 2 ^ 63

-- a tensor or a combiner over this group, within the limits of a document
abbrev pub IsPrintableValue : List Factor → MemberValue → Type 0
IsPrintableValue fs (own t) = (t.group ≡ fs) × IsPrintable t
IsPrintableValue fs (fuse c) = (c.group ≡ fs) × IsCombiner c × IsTable false c
IsPrintableValue fs (split c) = (c.group ≡ fs) × IsCombiner c × IsTable true c

pub record IsPrintableMember (fs : List Factor) (m : LabelledMember) : Type 0 where
  pub value : IsPrintableValue fs m.member
  pub labels : All IsNumber m.labels

-- a network within the limits of a document
pub record IsPrintableNetwork (fs : List Factor) (order : List ℤ) (ms : List LabelledMember) (twist : List ℤ) : Type 0 where
  pub group : IsGroup fs
  pub factors : length fs ≤ 4
  pub some : 0 < length ms
  pub few : length ms ≤ 256
  pub members : All (IsPrintableMember fs) ms
  pub ordered : All IsNumber order
  pub twisted : All IsNumber twist

abbrev pub canonical_value : MemberValue → MemberValue
canonical_value (own t) = own (canonical t)
canonical_value (fuse c) = fuse c
canonical_value (split c) = split c

-- the member without its blocks of zeros
abbrev pub canonical_member : LabelledMember → LabelledMember
canonical_member m = record { member = canonical_value m.member; labels = m.labels }

-- the tree of a network's text has no fault up to the labels, and means its group, its order, its twisted labels and its members without their blocks of zeros
abbrev pub NetworkReadsBack : Type 0
NetworkReadsBack = (fs : List Factor) (order : List ℤ) (ms : List LabelledMember) (twist : List ℤ) → IsPrintableNetwork fs order ms twist →
    (parts_fault (network_data fs order ms twist) ≡ None)
    × (factors_of (network_data fs order ms twist) ≡ fs)
    × (members_of (network_data fs order ms twist) ≡ map canonical_member ms)
    × (order_of (network_data fs order ms twist) ≡ Some order)
    × (twist_of (network_data fs order ms twist) ≡ twist)

-- ---- the whole text

-- each label of the member is from -1,024 to 1,024 and not 0
abbrev pub HasLabels : LabelledMember → Type 0
HasLabels m = All IsLabel m.labels

-- the same tensor: its group, its legs, its flux, and its entry at each list of values
pub record IsSameTensor (a b : TensorValue) : Type 0 where
  pub group : a.group ≡ b.group
  pub legs : a.legs ≡ b.legs
  pub flux : a.flux ≡ b.flux
  pub entries : (xs : List ℕ) → entry_of a xs ≡ entry_of b xs

-- the same tensor with the same labels, which stands for the same
pub record IsSameMember (a b : PlacedMember) : Type 0 where
  pub tensor : IsSameTensor a.placed.tensor b.placed.tensor
  pub labels : a.placed.labels ≡ b.placed.labels
  pub role : a.role ≡ b.role

abbrev pub AreSameMembers : List PlacedMember → List PlacedMember → Type 0
AreSameMembers [] [] = Unit {0}
AreSameMembers [] (n ∷ ns) = ⊥
AreSameMembers (m ∷ ms) [] = ⊥
AreSameMembers (m ∷ ms) (n ∷ ns) = IsSameMember m n × AreSameMembers ms ns

-- the same network
pub record IsSameNetwork (a b : NetworkValue) : Type 0 where
  pub group : a.group ≡ b.group
  pub members : AreSameMembers a.members b.members
  pub order : a.order ≡ b.order
  pub twists : a.twists ≡ b.twists

-- a text of this network, within the limits of a document: at most 2^26 bytes
pub record IsDocumentOf (net : NetworkValue) (text : List ℕ) : Type 0 where
  pub network : IsWellFormed net
  pub written : IsTextOf net text
  pub printable : IsPrintableNetwork net.group net.order written.members net.twists
  pub labels : All HasLabels written.members
  pub short : length text ≤ 67108864

-- an answer that gives the network: the network itself, or want of memory
abbrev pub GivesBack : NetworkValue → Result AnyNet DocFault → Type 0
GivesBack net (Ok any) = IsSameNetwork (any_network any) net
GivesBack net (Err (Bad f)) = ⊥
GivesBack net (Err Memory) = Unit {0}

-- what reads the text of a network as a reader of documents does gives the network
abbrev pub NetworkTextReadsBack : Type 0
NetworkTextReadsBack = (net : NetworkValue) (text : List ℕ) → IsDocumentOf net text →
    (answer : Result AnyNet DocFault) → ReadsBy (bytes_fault text) (IsLabelFaultIn text) (IsNetworkIn text) answer → GivesBack net answer
