-- What the engine keeps for each group of tensors of a network on its way through the steps.
use Rattle.std.specs.Prelude.{◌≡◌, ◌≤◌, ◌==◌, ℕ, zero, suc, ℤ, Bool, true, false, List, [], ◌∷◌, if◌then◌else◌}
use Rattle.std.specs.List.{All}
use Rattle.qn_sign.specs.Sign.{xor}
use Rattle.qn_gauss.specs.Gaussian.{mag, limit}
use Rattle.qn_charge.specs.declared.factor.Factor.{Factor}
use Rattle.qn_charge.specs.Charges.{parity}
use Rattle.qn_index.specs.Legs.{SectorValue}
use Rattle.qn_value.specs.Labels.{Placed}
use Rattle.qn_value.specs.Tensors.{TensorValue, entry_of}
use Rattle.qn_block.specs.Combiners.{CombinerValue}
use Rattle.qn_block.specs.Blocked.{BlockedValue}
use Rattle.qn_net.specs.Groups.{TensorGroup}
use Rattle.qn_net.specs.Members.{MemberValue, LabelledMember, member_tensor, role_of, IsNarrow}
use Rattle.qn_net.specs.Members.MemberValue.{own, fuse, split}
use Rattle.qn_net.specs.Operations.{IsTensorOf}
use Rattle.qn_engine.specs.declared.part.Tensor.{Tensor}
use Rattle.qn_engine.specs.declared.part.Tensor.TheVariants.{Lent, Made}
use Rattle.qn_engine.specs.declared.part.Table.{Table}
use Rattle.qn_engine.specs.declared.part.Table.TheVariants.{Fuse, Split}
use Rattle.qn_engine.specs.declared.part.Held.{Held}
use Rattle.qn_engine.specs.declared.part.Held.TheVariants.{Plain, Combined}

-- a tensor that is lent or owned
abbrev pub tensor_value : (K : ℕ) → Tensor K → BlockedValue
tensor_value K (Lent t) = t.now
tensor_value K (Made t) = t

abbrev pub table_value : (K : ℕ) → Table K → MemberValue
table_value K (Fuse c) = fuse c.now
table_value K (Split c) = split c.now

abbrev pub combiner_of : (K : ℕ) → Table K → CombinerValue
combiner_of K (Fuse c) = c.now
combiner_of K (Split c) = c.now

abbrev pub is_fuse_table : (K : ℕ) → Table K → Bool
is_fuse_table K (Fuse c) = true
is_fuse_table K (Split c) = false

abbrev pub held_value : (K : ℕ) → Held K → MemberValue
held_value K (Plain t) = own (tensor_value K t)
held_value K (Combined t) = table_value K t

-- two tensors with the same legs, flux and entries
pub record IsSameTensor (t u : TensorValue) : Type 0 where
  pub group : t.group ≡ u.group
  pub legs : t.legs ≡ u.legs
  pub flux : t.flux ≡ u.flux
  pub entry : (xs : List ℕ) → entry_of t xs ≡ entry_of u xs

-- a tensor in its place: its number in the plan, what it is, and a label on each leg
pub record PartValue : Type 0 where
  pub number : ℕ
  pub member : MemberValue
  pub labels : List ℤ

-- the part as a tensor with its labels
abbrev pub placed_part : PartValue → Placed
placed_part p = record { tensor = member_tensor p.member; labels = p.labels }

-- the parts of the members, numbered from n
abbrev pub member_parts : ℕ → List LabelledMember → List PartValue
member_parts n [] = []
member_parts n (m ∷ ms) = record { number = n; member = m.member; labels = m.labels } ∷ member_parts (suc n) ms

-- the place of the first part with the number, or the number of parts
abbrev pub place_of : ℕ → List PartValue → ℕ
place_of n [] = zero
place_of n (p ∷ ps) = if p.number == n then zero else suc (place_of n ps)

-- whether the flux is odd
abbrev pub is_odd_tensor : TensorValue → Bool
is_odd_tensor t = parity t.group t.flux

-- whether an odd number of the parts have odd flux
abbrev pub is_odd_number : List PartValue → Bool
is_odd_number [] = false
is_odd_number (p ∷ ps) = xor (is_odd_tensor (member_tensor p.member)) (is_odd_number ps)

-- the part is the tensor of the group: it has its number, its role and its tensor; a table is within the limits
pub record IsPartOf (fs : List Factor) (sectors : ℤ → List SectorValue) (p : PartValue) (g : TensorGroup) : Type 0 where
  pub number : p.number ≡ g.number
  pub role : role_of p.member ≡ g.role
  pub tensor : IsTensorOf fs sectors (placed_part p) g
  pub narrow : IsNarrow p.member

-- the parts are the tensors of the groups, one by one
abbrev pub ArePartsOf : List Factor → (ℤ → List SectorValue) → List PartValue → List TensorGroup → Type 0
ArePartsOf fs sectors [] [] = Unit {0}
ArePartsOf fs sectors [] (g ∷ gs) = ⊥
ArePartsOf fs sectors (p ∷ ps) [] = ⊥
ArePartsOf fs sectors (p ∷ ps) (g ∷ gs) = IsPartOf fs sectors p g × ArePartsOf fs sectors ps gs

-- no stored entry has a magnitude above the limit
abbrev pub HasSmallEntries : BlockedValue → Type 0
HasSmallEntries t = All (λ b. All (λ z. mag z ≤ limit) b.entries) t.blocks

abbrev pub IsSmallMember : MemberValue → Type 0
IsSmallMember (own t) = HasSmallEntries t
IsSmallMember (fuse c) = Unit {0}
IsSmallMember (split c) = Unit {0}
