-- Steps that fuse or split by a combiner: what they are given, and what they make of it.
-- Singh, Pfeifer and Vidal 2010; combiners as in Fishman, White and Stoudenmire 2022.
use Rattle.std.specs.Prelude.{◌≡◌, ◌<◌, ◌&&◌, ◌+◌, ℕ, zero, suc, ℤ, Bool, true, false, cond, not, List, [], ◌∷◌, ◌++◌, filter, length, reverse, slice_index_or, if◌then◌else◌}
use Rattle.std.specs.List.{All}
use Rattle.std.specs.Ordering.{int_eq}
use Rattle.qn_sign.specs.Sign.{is_in}
use Rattle.qn_charge.specs.declared.factor.Factor.{Factor}
use Rattle.qn_charge.specs.Charges.{parity}
use Rattle.qn_index.specs.Legs.{SectorValue, LegValue, parity_at}
use Rattle.qn_index.specs.Extents.{IsWithinLimits}
use Rattle.qn_value.specs.Networks.{End, Bond, same_end, labels, odd_flux}
use Rattle.qn_value.specs.Labels.{Placed, slots_of, ends}
use Rattle.qn_value.specs.Local.{picked, no_leg}
use Rattle.qn_block.specs.Blocked.{BlockedValue, tensor_of}
use Rattle.qn_block.specs.Combiners.{CombinerValue, fused_leg, fused_sectors, fused_values, stands_at}
use Rattle.qn_block.specs.Tables.{fuse_tensor, split_tensor, is_inward, odd_inward}
use Rattle.qn_net.specs.Groups.{Role, TensorGroup, nodes, flux_of}
use Rattle.qn_net.specs.Groups.Role.{fuse_table, split_table}
use Rattle.qn_net.specs.Steps.{Step, State, result, fuses, IsStepAt}
use Rattle.qn_net.specs.Steps.Step.{pair}
use Rattle.qn_net.specs.Tables.{no_end}
use Rattle.qn_net.specs.Carried.{IsSoundState}
use Rattle.qn_net.specs.Passing.{result_legs}
use Rattle.qn_net.specs.Operations.{parities_on, labels_left, IsTensorOf, AreLines}
use Rattle.qn_engine.specs.Labels.{place_in}
use Rattle.qn_engine.specs.declared.fusing.Source.{Source}
use Rattle.qn_engine.specs.declared.fusing.Source.TheVariants.{Table, Left}

-- a pair step of a network: the group of the charges, the sectors of each line, the open ends of the network, the state before the step, and the step
pub record PairAt : Type 0 where
  pub group : List Factor
  pub sectors : ℤ → List SectorValue
  pub opens : List End
  pub state : State
  pub before : List TensorGroup
  pub first : TensorGroup
  pub between : List TensorGroup
  pub second : TensorGroup
  pub behind : List TensorGroup
  pub bonds : List Bond
  pub left : List Bond

abbrev pub step_of : PairAt → Step
step_of k = pair k.before k.first k.between k.second k.behind k.bonds k.left

-- the group that the step makes
abbrev pub made_by : PairAt → TensorGroup
made_by k = result (parities_on k.group k.sectors) (step_of k)

-- what a step that fuses or splits is given: a combiner that stands for one of its tables, the other tensor, their labels, and which of the two is the earlier one
pub record FusionValue : Type 0 where
  pub combiner : CombinerValue
  pub is_fuse : Bool
  pub is_first : Bool
  pub table_labels : List ℤ
  pub tensor : BlockedValue
  pub tensor_labels : List ℤ
  pub summed : List ℤ
  pub between_odd : Bool

-- the table of the combiner, with its labels
abbrev pub table : FusionValue → Placed
table f = record { tensor = cond f.is_fuse (fuse_tensor f.combiner) (split_tensor f.combiner); labels = f.table_labels }

-- the tensor that is fused or split, with its labels
abbrev pub other : FusionValue → Placed
other f = record { tensor = tensor_of f.tensor; labels = f.tensor_labels }

-- the two in the order of their groups
abbrev pub earlier : FusionValue → Placed
earlier f = cond f.is_first (table f) (other f)

abbrev pub later : FusionValue → Placed
later f = cond f.is_first (other f) (table f)

abbrev pub role : FusionValue → Role
role f = cond f.is_fuse fuse_table split_table

-- the group that is the table
abbrev pub table_group : FusionValue → PairAt → TensorGroup
table_group f k = cond f.is_first k.first k.second

-- the step fuses or splits by this combiner, and its result is not too wide
pub record IsFusion (f : FusionValue) (k : PairAt) : Type 0 where
  pub sound : IsSoundState (parities_on k.group k.sectors) k.opens k.state
  pub at : IsStepAt k.state (step_of k)
  pub lines : AreLines k.sectors k.state.left
  pub earlier : IsTensorOf k.group k.sectors (earlier f) k.first
  pub later : IsTensorOf k.group k.sectors (later f) k.second
  pub role : (table_group f k).role ≡ role f
  pub fuses : fuses (table_group f k) k.bonds ≡ true
  pub summed : f.summed ≡ labels k.bonds
  pub between : f.between_odd ≡ odd_flux (nodes k.between)
  pub shape : IsWithinLimits k.group (result_legs (parities_on k.group k.sectors) k.sectors (step_of k)) (flux_of k.group (made_by k))

-- the tensor, with the labels that are left, is that of the step's result
abbrev pub IsFused : FusionValue → PairAt → BlockedValue → Type 0
IsFused f k r = IsTensorOf k.group k.sectors (record { tensor = tensor_of r; labels = labels_left ((earlier f).labels ++ (later f).labels) k.bonds }) (made_by k)

-- the legs of both tensors, those of the earlier one first, and their labels

abbrev pub word_legs : FusionValue → List LegValue
word_legs f = (earlier f).tensor.legs ++ (later f).tensor.legs

abbrev pub word_labels : FusionValue → List ℤ
word_labels f = (earlier f).labels ++ (later f).labels

-- which end of which line each leg is
abbrev pub ends_of : List LegValue → List ℤ → List End
ends_of legs ls = ends (slots_of legs ls)

-- the two ends of each line, the inward one first
abbrev pub line_ends : List ℤ → List End
line_ends [] = []
line_ends (l ∷ ls) = record { label = l; inward = true } ∷ record { label = l; inward = false } ∷ line_ends ls

-- the ends that are not summed
abbrev pub ends_left : List ℤ → List End → List End
ends_left summed es = filter (λ e. not (is_in int_eq e.label summed)) es

-- the places of the legs that are left, the first leg having the place n
abbrev pub places_left : List ℤ → ℕ → List ℤ → List ℕ
places_left summed n [] = []
places_left summed n (l ∷ ls) = cond (is_in int_eq l summed) (places_left summed (n + 1) ls) (n ∷ places_left summed (n + 1) ls)

-- the legs that are left
abbrev pub legs_left : FusionValue → List LegValue
legs_left f = picked no_leg (word_legs f) (places_left f.summed 0 (word_labels f))

-- the place of an end, or the number of ends
abbrev pub end_place : End → List End → ℕ
end_place e [] = zero
end_place e (x ∷ es) = if same_end e x then zero else suc (end_place e es)

-- the places of the two ends of each line, the inward one first
abbrev pub line_places : List End → List ℤ → List ℕ
line_places es [] = []
line_places es (l ∷ ls) = end_place (record { label = l; inward = true }) es ∷ end_place (record { label = l; inward = false }) es ∷ line_places es ls

-- the places of the two ends of each summed line, and then those of the legs that are left
abbrev pub order_of : FusionValue → List ℕ
order_of f = line_places (ends_of (word_legs f) (word_labels f)) f.summed ++ places_left f.summed 0 (word_labels f)

-- places of legs: those of the two ends of each summed line, and after these those of the legs that are left
pub record IsOrderOf (summed : List ℤ) (es : List End) (order : List ℕ) : Type 0 where
  pub within : All (λ i. i < length es) order
  pub ends : picked no_end es order ≡ line_ends summed ++ ends_left summed es

-- where the value of a leg of the tensor comes from: on a summed line it is that of the table's leg with the same label, and the others are given in order, this one as the n-th
abbrev pub source_of : List ℤ → List ℤ → ℕ → ℤ → Source
source_of table summed n l = cond (is_in int_eq l summed) (Table (place_in l table)) (Left n)

abbrev pub next_after : Source → ℕ → ℕ
next_after (Table k) n = n
next_after (Left k) n = n + 1

abbrev pub sources_from : List ℤ → List ℤ → ℕ → List ℤ → List Source
sources_from table summed n [] = []
sources_from table summed n (l ∷ ls) = source_of table summed n l ∷ sources_from table summed (next_after (source_of table summed n l) n) ls

abbrev pub source_value : List ℕ → List ℕ → Source → ℕ
source_value us vs (Table k) = slice_index_or us k 0
source_value us vs (Left k) = slice_index_or vs k 0

abbrev pub IsSourceIn : ℕ → ℕ → Source → Type 0
IsSourceIn m n (Table k) = k < m
IsSourceIn m n (Left k) = k < n

-- the legs of the table that a step that fuses or splits leaves
abbrev pub table_left : CombinerValue → Bool → List LegValue
table_left c true = fused_leg c.group c.legs c.arrow ∷ []
table_left c false = c.legs

-- values of the fuse table's legs that match, and whether the entry there is -1
pub record IsFuseMatch (c : CombinerValue) (left us : List ℕ) (minus : Bool) : Type 0 where
  pub value : ℕ
  pub found : List ℕ
  pub left_is : left ≡ value ∷ []
  pub all : us ≡ value ∷ reverse found
  pub match : stands_at (fused_values c.group c.legs c.arrow) value found ≡ true
  pub sign : minus ≡ odd_inward c.group c.legs found

-- values of the split table's legs that match, and whether the entry there is -1
pub record IsSplitMatch (c : CombinerValue) (left us : List ℕ) (minus : Bool) : Type 0 where
  pub value : ℕ
  pub all : us ≡ left ++ (value ∷ [])
  pub match : stands_at (fused_values c.group c.legs c.arrow) value left ≡ true
  pub sign : minus ≡ (is_inward c.arrow && parity_at c.group (fused_sectors c.group c.legs c.arrow) value)

-- values of all legs of the table, of which these are left, at which its entry is not 0; and whether it is -1
abbrev pub IsMatch : CombinerValue → Bool → List ℕ → List ℕ → Bool → Type 0
IsMatch c true left us minus = IsFuseMatch c left us minus
IsMatch c false left us minus = IsSplitMatch c left us minus

-- a step that is made ready: the legs of both tensors, their order in the sign, where the values of the tensor's legs come from, and whether moving the tensor past what stands between gives a sign
pub record IsWiring (f : FusionValue) (legs : List LegValue) (order : List ℕ) (sources : List Source) (past : Bool) : Type 0 where
  pub legs_are : legs ≡ word_legs f
  pub order_is : order ≡ order_of f
  pub sources_are : sources ≡ sources_from f.table_labels f.summed 0 f.tensor_labels
  pub past_is : past ≡ (f.is_first && (f.between_odd && parity f.tensor.group f.tensor.flux))
