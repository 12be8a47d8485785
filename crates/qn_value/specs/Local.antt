-- Single operations on tensors: legs in another order, couples of legs of one tensor summed over, two tensors contracted.
-- Fishman, White and Stoudenmire 2022; the signs by the exchange rule of super vector spaces.
use Rattle.std.specs.Prelude.{◌≡◌, ◌<◌, None, ℕ, suc, ◌+◌, ◌==◌, ℤ, pos, negsuc, Bool, ◌&&◌, ◌||◌, not, cond, List, [], ◌∷◌, length, map, take, drop, count_by, slice_index_or}
use Rattle.std.specs.List.{All, flat_map}
use Rattle.qn_sign.specs.Positions.{positions, is_odd_at}
use Rattle.qn_sign.specs.Sign.{is_in, exchange_sign, IsDistinct}
use Rattle.qn_index.specs.Legs.{parity_at}
use Rattle.qn_gauss.specs.Gaussian.{Gaussian, signed}
use Rattle.qn_charge.specs.declared.factor.Factor.{Factor}
use Rattle.qn_charge.specs.Charges.{sum_charge, parity}
use Rattle.qn_index.specs.declared.leg.Dir.TheVariants.{Out}
use Rattle.qn_index.specs.Legs.{LegValue, Meets}
use Rattle.qn_index.specs.Places.{IsValues}
use Rattle.qn_value.specs.Tensors.{TensorValue, IsTensor, entry_of}
use Rattle.qn_value.specs.Labels.{Placed, slots, ends, IsWellLabelled, IsUniform, AllPlaced, value_of}

-- the k-th element of the list for each of the places k
abbrev pub picked : {A : Type 0} → A → List A → List ℕ → List A
picked default xs places = map (λ k. slice_index_or xs k default) places

-- the parities of the legs' values
abbrev pub parities : List Factor → List LegValue → List ℕ → List Bool
parities fs [] xs = []
parities fs (l ∷ ls) [] = []
parities fs (l ∷ ls) (x ∷ xs) = parity_at fs l.sectors x ∷ parities fs ls xs

-- the sign of bringing legs with these values into another order
abbrev pub moving_sign : List Factor → List LegValue → List ℕ → List ℕ → Bool
moving_sign fs ls xs order = exchange_sign ◌==◌ (is_odd_at (parities fs ls xs)) (positions (length ls)) order

abbrev pub no_leg : LegValue
no_leg = record { arrow = Out; sectors = [] }

-- r is t with its legs in another order, given by their places in t: each entry with the sign of the rearrangement
pub record Moved (t : TensorValue) (order : List ℕ) (r : TensorValue) : Type 0 where
  pub group : r.group ≡ t.group
  pub legs : r.legs ≡ picked no_leg t.legs order
  pub flux : r.flux ≡ t.flux
  pub entries : (xs : List ℕ) → IsValues t.legs xs →
      entry_of r (picked 0 xs order) ≡ signed (moving_sign t.group t.legs xs order) (entry_of t xs)

-- contractions: couples of places in the word of the tensors' legs

-- the places that stand in couples
abbrev pub places_of : List (ℕ × ℕ) → List ℕ
places_of couples = flat_map (λ c. c.0 ∷ c.1 ∷ []) couples

-- the place stands in one of the couples
abbrev pub is_coupled : List (ℕ × ℕ) → ℕ → Bool
is_coupled couples i = is_in ◌==◌ i (places_of couples)

-- the two legs at a couple of places meet
pub record IsCouple (ls : List LegValue) (c : ℕ × ℕ) : Type 0 where
  pub first : c.0 < length ls
  pub second : c.1 < length ls
  pub meets : Meets (slice_index_or ls c.0 no_leg) (slice_index_or ls c.1 no_leg) None

-- legs that meet are coupled, and no leg stands in two couples
pub record IsCoupling (ls : List LegValue) (couples : List (ℕ × ℕ)) : Type 0 where
  pub meet : All (IsCouple ls) couples
  pub distinct : IsDistinct ◌==◌ (places_of couples)

-- the number of the couple in which the place stands, counted from n
abbrev pub couple_number : ℕ → List (ℕ × ℕ) → ℕ → ℕ
couple_number n [] i = n
couple_number n (c ∷ cs) i = cond ((i == c.0) || (i == c.1)) n (couple_number (suc n) cs i)

-- the label of a place: 1, 2, .. for the couples, and -1, -2, .. for the other places in their order
abbrev pub label_at : List (ℕ × ℕ) → ℕ → ℤ
label_at couples i = cond (is_coupled couples i) (pos (couple_number 1 couples i)) (negsuc (count_by (λ j. not (is_coupled couples j)) (positions i)))

abbrev pub labels_of : List (ℕ × ℕ) → ℕ → List ℤ
labels_of couples n = map (label_at couples) (positions n)

-- the tensors with these labels, leg by leg
abbrev pub with_labels : List TensorValue → List ℤ → List Placed
with_labels [] ls = []
with_labels (t ∷ ts) ls = record { tensor = t; labels = take (length t.legs) ls } ∷ with_labels ts (drop (length t.legs) ls)

-- the tensors as a network: each couple is a line to be summed over, and the other legs are open in word order
abbrev pub coupled : List TensorValue → List (ℕ × ℕ) → List Placed
coupled ts couples = with_labels ts (labels_of couples (length (flat_map (λ t. t.legs) ts)))

-- the legs that stand in no couple, the first one having the place i
abbrev pub open_from : ℕ → List (ℕ × ℕ) → List LegValue → List LegValue
open_from i couples [] = []
open_from i couples (l ∷ ls) = cond (is_coupled couples i) (open_from (suc i) couples ls) (l ∷ open_from (suc i) couples ls)

abbrev pub open_legs : List TensorValue → List (ℕ × ℕ) → List LegValue
open_legs ts couples = open_from 0 couples (flat_map (λ t. t.legs) ts)

-- an entry of a trace: the value of the network that has t alone
abbrev pub trace_entry : TensorValue → List (ℕ × ℕ) → List ℕ → Gaussian
trace_entry t couples xs = value_of t.group (coupled (t ∷ []) couples) [] (length xs) xs

-- r is t with the couples of legs summed over
pub record Traced (t : TensorValue) (couples : List (ℕ × ℕ)) (r : TensorValue) : Type 0 where
  pub group : r.group ≡ t.group
  pub legs : r.legs ≡ open_legs (t ∷ []) couples
  pub flux : r.flux ≡ t.flux
  pub entries : (xs : List ℕ) → IsValues r.legs xs → entry_of r xs ≡ trace_entry t couples xs

-- the places of two tensors' shared legs in the word of both
abbrev pub shared_couples : TensorValue → List (ℕ × ℕ) → List (ℕ × ℕ)
shared_couples a shared = map (λ p. (p.0, length a.legs + p.1)) shared

-- the network of two tensors that are contracted over these pairs of legs
abbrev pub pair_network : TensorValue → TensorValue → List (ℕ × ℕ) → List Placed
pair_network a b shared = coupled (a ∷ b ∷ []) (shared_couples a shared)

-- an entry of a contraction of two tensors: the value of the network of the two, times -1 where `between` and b's flux are odd
abbrev pub pair_entry : TensorValue → TensorValue → List (ℕ × ℕ) → Bool → List ℕ → Gaussian
pair_entry a b shared between xs = signed (between && parity b.group b.flux) (value_of a.group (pair_network a b shared) [] (length xs) xs)

-- r is a contracted with b over these pairs of legs: first the legs of a that are left, and then those of b
pub record Pairwise (a b : TensorValue) (shared : List (ℕ × ℕ)) (between : Bool) (r : TensorValue) : Type 0 where
  pub group : r.group ≡ a.group
  pub legs : r.legs ≡ open_legs (a ∷ b ∷ []) (shared_couples a shared)
  pub flux : r.flux ≡ sum_charge a.group a.flux b.flux
  pub entries : (xs : List ℕ) → IsValues r.legs xs → entry_of r xs ≡ pair_entry a b shared between xs

-- the tensors are tensors over this group
abbrev pub AllTensors : List Factor → List TensorValue → Type 0
AllTensors fs [] = Unit {0}
AllTensors fs (t ∷ ts) = (t.group ≡ fs) × IsTensor t × AllTensors fs ts

-- coupled tensors are a network of tensors over their group, whose open legs are those in no couple
abbrev pub CoupledLaw : Type 0
CoupledLaw =
    (ts : List TensorValue) (couples : List (ℕ × ℕ)) → IsCoupling (flat_map (λ t. t.legs) ts) couples →
    IsWellLabelled (ends (slots (coupled ts couples))) (length (open_legs ts couples))
    × IsUniform (slots (coupled ts couples))
    × ((fs : List Factor) → AllTensors fs ts → AllPlaced fs (coupled ts couples))
