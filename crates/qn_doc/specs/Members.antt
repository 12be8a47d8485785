-- A member of a network in a document: its form, its first fault, and what it stands for.
use Rattle.std.specs.Prelude.{ℕ, ℤ, List, map, Bool, ◌&&◌, if◌then◌else◌, Option, codes}
use Rattle.std.specs.Option.{option_map_or}
use Rattle.serde_json.specs.Data.{Data}
use Rattle.serde_json.specs.Find.{get}
use Rattle.qn_charge.specs.declared.factor.Factor.{Factor}
use Rattle.qn_net.specs.Members.{MemberValue, LabelledMember, IsMemberOf}
use Rattle.qn_net.specs.Members.MemberValue.{own, fuse, split}
use Rattle.qn_parts.specs.declared.fault.Fault.{Fault}
use Rattle.qn_json.specs.Forms.{has, are_numbers}
use Rattle.qn_json.specs.Tree.{items, member_of}
use Rattle.qn_parts.specs.Sectors.{number_of}
use Rattle.qn_parts.specs.Tensors.{is_tensor, tensor_of, tensor_fault}
use Rattle.qn_doc.specs.Combiners.{is_combiner, is_split, combiner_of, combiner_fault}

-- a combiner under the key `combine`, or else a tensor; and its labels
unfoldable pub is_member : ℕ → Data → Bool
is_member n d = has are_numbers (get (codes "labels") d) && option_map_or (is_combiner n) (get (codes "combine") d) (is_tensor n d)

-- the whole numbers of a list
abbrev pub numbers_of : Data → List ℤ
numbers_of d = map number_of (items d)

-- a combiner as a member: its fuse table or its split table
abbrev pub table_of : List Factor → Data → MemberValue
table_of fs d = if is_split d then split (combiner_of fs d) else fuse (combiner_of fs d)

-- the tensor or combiner that is meant
abbrev pub member_value_of : List Factor → Data → MemberValue
member_value_of fs d = option_map_or (table_of fs) (get (codes "combine") d) (own (tensor_of fs d))

-- the member that is meant
unfoldable pub labelled_of : List Factor → Data → LabelledMember
labelled_of fs d = record { member = member_value_of fs d; labels = numbers_of (member_of (codes "labels") d) }

-- F8 to F19 of the member at place k
unfoldable pub member_fault : List Factor → ℕ → Data → Option Fault
member_fault fs k d = option_map_or (combiner_fault fs k) (get (codes "combine") d) (tensor_fault fs k d)

-- with any labels the member is one of a network over this group
pub record IsPlaced (fs : List Factor) (m : MemberValue) : Type 0 where
  pub labelled : (labels : List ℤ) → IsMemberOf fs (record { member = m; labels = labels })

-- the member is one of a network over this group
unfoldable pub IsInNetwork : List Factor → LabelledMember → Type 0
IsInNetwork fs m = IsMemberOf fs m
