-- The text of a network: compact JSON, the keys of each object ascending. Blocks that are all zeros are left out.
use Rattle.std.specs.Prelude.{◌≡◌, ℕ, ℤ, List, [], ◌∷◌, ◌++◌, map, filter, codes, Some}
use Rattle.std.specs.List.{All}
use Rattle.json.specs.Tree.{members_tokens}
use Rattle.json.specs.Written.{Written}
use Rattle.serde_json.specs.Data.{Data, Members, string, object, member, no_members}
use Rattle.serde_json.specs.Written.{members_outline}
use Rattle.qn_charge.specs.declared.factor.Factor.{Factor}
use Rattle.qn_block.specs.Blocked.{BlockedValue, is_filled}
use Rattle.qn_block.specs.Combiners.{CombinerValue}
use Rattle.qn_net.specs.Members.{MemberValue, LabelledMember, placed_member, IsHeld}
use Rattle.qn_net.specs.Members.MemberValue.{own, fuse, split}
use Rattle.qn_net.specs.NetworkValues.{NetworkValue}
use Rattle.qn_json.specs.Texts.{line_of, list_data, whole_data}
use Rattle.qn_json.specs.Tree.{tree_of}
use Rattle.qn_parts.specs.TensorTexts.{factor_data, charge_data, arrow_word, leg_data, block_data}

abbrev pub labels_data : List ℤ → Data
labels_data ls = list_data (map whole_data ls)

-- {"blocks":[block,..],"flux":flux,"labels":[whole,..],"legs":[leg,..]}
abbrev pub own_data : BlockedValue → List ℤ → Data
own_data t ls =
    object
    (member (codes "blocks") (list_data (map block_data (filter is_filled t.blocks)))
    (member (codes "flux") (charge_data t.flux)
    (member (codes "labels") (labels_data ls)
    (member (codes "legs") (list_data (map leg_data t.legs)) no_members))))

-- {"dir":"out" or "in","legs":[leg,..],"mode":"fuse" or "split"}
abbrev pub combine_data : CombinerValue → List ℕ → Data
combine_data c mode =
    object
    (member (codes "dir") (string (arrow_word c.arrow))
    (member (codes "legs") (list_data (map leg_data c.legs))
    (member (codes "mode") (string mode) no_members)))

-- {"combine":combiner,"labels":[whole,..]}
abbrev pub table_data : CombinerValue → List ℕ → List ℤ → Data
table_data c mode ls = object (member (codes "combine") (combine_data c mode) (member (codes "labels") (labels_data ls) no_members))

abbrev pub labelled_data : MemberValue → List ℤ → Data
labelled_data (own t) ls = own_data t ls
labelled_data (fuse c) ls = table_data c (codes "fuse") ls
labelled_data (split c) ls = table_data c (codes "split") ls

abbrev pub member_data : LabelledMember → Data
member_data m = labelled_data m.member m.labels

-- "twist":[whole,..], where some labels are twisted
abbrev pub twist_members : List ℤ → Members
twist_members [] = no_members
twist_members (l ∷ ls) = member (codes "twist") (labels_data (l ∷ ls)) no_members

-- {"group":group,"order":[whole,..],"tensors":[member,..]}, and where some labels are twisted "twist":[whole,..] behind these
abbrev pub network_data : List Factor → List ℤ → List LabelledMember → List ℤ → Data
network_data fs order ms twist =
    object
    (member (codes "group") (list_data (map factor_data fs))
    (member (codes "order") (labels_data order)
    (member (codes "tensors") (list_data (map member_data ms)) (twist_members twist))))

-- the members of an object that are left, with its closing bracket, stand behind what was written before
pub record Closes (left : Members) (old new : Written) : Type 0 where
  pub tokens : new.tokens ≡ old.tokens ++ members_tokens (members_outline left)
  pub before : new.before ≡ old.before

-- the text of the network whose members these are, as they are held, which is read as the tree that it was written from
pub record IsTextOf (net : NetworkValue) (text : List ℕ) : Type 0 where
  pub members : List LabelledMember
  pub held : All (λ (m : LabelledMember). IsHeld m.member) members
  pub are : map placed_member members ≡ net.members
  pub is : text ≡ line_of (network_data net.group net.order members net.twists)
  pub tree : tree_of text ≡ Some (network_data net.group net.order members net.twists)
