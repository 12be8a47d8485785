-- What a plan looks at: the legs and the flux of each group of tensors, and no entries.
-- NCON, arXiv:1402.0939; Fishman, White and Stoudenmire 2022.
use Rattle.std.specs.Prelude.{ℕ, zero, suc, ℤ, Bool, true, false, not, ◌||◌, ◌&&◌, List, [], ◌∷◌, ◌++◌, map, filter, slice_index_or, int_lt, if◌then◌else◌}
use Rattle.std.specs.Ordering.{int_eq}
use Rattle.qn_sign.specs.Sign.{is_in}
use Rattle.qn_charge.specs.declared.factor.Factor.{Factor}
use Rattle.qn_charge.specs.Charges.{sum_charge}
use Rattle.qn_index.specs.Legs.{SectorValue, LegValue}
use Rattle.qn_value.specs.Networks.{End, same_end, labels}
use Rattle.qn_value.specs.Tensors.{TensorValue}
use Rattle.qn_value.specs.Labels.{slots_of, ends, is_positive}
use Rattle.qn_value.specs.Blocks.{legs_on}
use Rattle.qn_net.specs.Groups.{TensorGroup, flux_of}
use Rattle.qn_net.specs.Steps.{State}
use Rattle.qn_net.specs.Members.{LabelledMember, member_tensor, role_of}
use Rattle.qn_net.specs.Groups.Role.{tensor}
use Rattle.qn_net.specs.Groups.{Role as GroupRole}

-- a group: the number of its earliest tensor, which end of which line each leg is, the legs, the flux, and the role
pub record ShapeValue : Type 0 where
  pub number : ℕ
  pub ends : List End
  pub legs : List LegValue
  pub flux : List ℤ
  pub role : GroupRole

-- the shape of a group, where each line has these sectors
abbrev pub shape_of : List Factor → (ℤ → List SectorValue) → TensorGroup → ShapeValue
shape_of fs sectors g = record { number = g.number; ends = g.node.ends; legs = legs_on sectors g.node.ends; flux = flux_of fs g; role = g.role }

-- the ends of lines that legs with these labels are
abbrev pub member_ends : List LegValue → List ℤ → List End
member_ends ls ks = ends (slots_of ls ks)

-- the shape of a tensor with a label on each leg
abbrev pub member_shape : ℕ → TensorValue → List ℤ → GroupRole → ShapeValue
member_shape n t ks role = record { number = n; ends = member_ends t.legs ks; legs = t.legs; flux = t.flux; role = role }

-- the shapes of members, numbered from n
abbrev pub member_shapes : ℕ → List LabelledMember → List ShapeValue
member_shapes n [] = []
member_shapes n (m ∷ ms) = member_shape n (member_tensor m.member) m.labels (role_of m.member) ∷ member_shapes (suc n) ms

-- the positive labels of the inward legs
abbrev pub inner_labels : List End → List ℤ
inner_labels es = map (λ e. e.label) (filter (λ e. e.inward && is_positive e.label) es)

abbrev pub place_label : ℤ → List ℤ → List ℤ
place_label l [] = l ∷ []
place_label l (k ∷ ks) = if int_lt l k then l ∷ k ∷ ks else k ∷ place_label l ks

-- labels, ascending
abbrev pub sorted_labels : List ℤ → List ℤ
sorted_labels [] = []
sorted_labels (l ∷ ls) = place_label l (sorted_labels ls)

-- the shapes of all groups in their places, and the labels that are not summed yet, ascending
pub record WalkValue : Type 0 where
  pub shapes : List ShapeValue
  pub left : List ℤ

abbrev pub walk_of : List Factor → (ℤ → List SectorValue) → State → WalkValue
walk_of fs sectors s = record { shapes = map (shape_of fs sectors) s.groups; left = labels s.left }

abbrev pub no_shape : ShapeValue
no_shape = record { number = 0; ends = []; legs = []; flux = []; role = tensor }

abbrev pub shape_at : List ShapeValue → ℕ → ShapeValue
shape_at ss i = slice_index_or ss i no_shape

-- a leg has the label
abbrev pub is_on : ℤ → List End → Bool
is_on l es = is_in same_end (record { label = l; inward = true }) es || is_in same_end (record { label = l; inward = false }) es

-- both legs of a line have the label
abbrev pub is_couple : ℤ → List End → Bool
is_couple l es = is_in same_end (record { label = l; inward = true }) es && is_in same_end (record { label = l; inward = false }) es

-- the legs that keep their lines where these labels are summed
abbrev pub ends_left : List ℤ → List End → List End
ends_left summed es = filter (λ e. not (is_in int_eq e.label summed)) es

abbrev pub legs_left : List ℤ → List End → List LegValue → List LegValue
legs_left summed [] ls = []
legs_left summed (e ∷ es) [] = []
legs_left summed (e ∷ es) (l ∷ ls) = if is_in int_eq e.label summed then legs_left summed es ls else l ∷ legs_left summed es ls

-- two shapes brought together over these labels
abbrev pub joined_shape : List Factor → ShapeValue → ShapeValue → List ℤ → ShapeValue
joined_shape fs g h summed = record {
  number = g.number;
  ends = ends_left summed g.ends ++ ends_left summed h.ends;
  legs = legs_left summed g.ends g.legs ++ legs_left summed h.ends h.legs;
  flux = sum_charge fs g.flux h.flux;
  role = tensor;
}

-- a shape that is summed over these labels
abbrev pub closed_shape : ShapeValue → List ℤ → ShapeValue
closed_shape g summed = record { number = g.number; ends = ends_left summed g.ends; legs = legs_left summed g.ends g.legs; flux = g.flux; role = tensor }

-- the place of the first leg with the label
abbrev pub place_of : ℤ → List End → ℕ
place_of l [] = zero
place_of l (e ∷ es) = if int_eq l e.label then zero else suc (place_of l es)

-- the places of the two legs of each of these labels, on two tensors
abbrev pub shared_places : List End → List End → List ℤ → List (ℕ × ℕ)
shared_places es fs ls = map (λ l. (place_of l es, place_of l fs)) ls
