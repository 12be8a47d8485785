-- Networks given by a label on each leg: a positive label stands on two legs, which are summed over together, and -1, -2, .. stand on the open legs.
-- NCON, arXiv:1402.0939.
use Rattle.std.specs.Prelude.{◌≡◌, ℕ, zero, suc, ◌<◌, ◌⊎◌, ℤ, pos, negsuc, Bool, true, false, ◌&&◌, not, List, [], ◌∷◌, ◌++◌, map, flat_map, length, int_lt, ◌==◌, if◌then◌else◌}
use Rattle.std.specs.Ordering.{int_eq}
use Rattle.qn_sign.specs.Sign.{is_in, IsDistinct}
use Rattle.qn_gauss.specs.Gaussian.{Gaussian}
use Rattle.qn_charge.specs.declared.factor.Factor.{Factor}
use Rattle.qn_charge.specs.Charges.{parity}
use Rattle.qn_index.specs.declared.leg.Dir.{Dir}
use Rattle.qn_index.specs.declared.leg.Dir.TheVariants.{Out, In}
use Rattle.qn_index.specs.Legs.{SectorValue, LegValue, total}
use Rattle.qn_index.specs.Legs.{parity_at}
use Rattle.qn_value.specs.Tensors.{TensorValue, IsTensor, entry_of}
use Rattle.qn_value.specs.Networks.{End, Node, Bond, Parities, same_end, flat, at_values}

-- a tensor in its network, with a label for each leg
pub record Placed : Type 0 where
  pub tensor : TensorValue
  pub labels : List ℤ

-- a tensor over this group, with a label for each leg
pub record IsPlaced (fs : List Factor) (p : Placed) : Type 0 where
  pub group : p.tensor.group ≡ fs
  pub tensor : IsTensor p.tensor
  pub labels : length p.labels ≡ length p.tensor.legs

abbrev pub AllPlaced : List Factor → List Placed → Type 0
AllPlaced fs [] = Unit {0}
AllPlaced fs (p ∷ ps) = IsPlaced fs p × AllPlaced fs ps

-- a leg in the network: which end of which line it is, and its sectors
pub record Slot : Type 0 where
  pub end : End
  pub sectors : List SectorValue

abbrev pub is_inward : Dir → Bool
is_inward In = true
is_inward Out = false

abbrev pub slots_of : List LegValue → List ℤ → List Slot
slots_of [] ls = []
slots_of (g ∷ gs) [] = []
slots_of (g ∷ gs) (l ∷ ls) = record { end = record { label = l; inward = is_inward g.arrow }; sectors = g.sectors } ∷ slots_of gs ls

-- all legs, tensor by tensor
abbrev pub slots : List Placed → List Slot
slots ps = flat_map (λ p. slots_of p.tensor.legs p.labels) ps

abbrev pub ends : List Slot → List End
ends ss = map (λ s. s.end) ss

-- the tensor by its ends, its entries and the parity of its flux
abbrev pub node_of : Placed → Node
node_of p = record { ends = ends (slots_of p.tensor.legs p.labels); entry = entry_of p.tensor; odd = parity p.tensor.group p.tensor.flux }

-- the sectors of a line are those of the first leg on it
abbrev pub sectors_on : List Slot → ℤ → List SectorValue
sectors_on [] l = []
sectors_on (s ∷ ss) l = if int_eq l s.end.label then s.sectors else sectors_on ss l

-- the parity of each value of each line
abbrev pub parity_of : List Factor → List Slot → Parities
parity_of fs ss l v = parity_at fs (sectors_on ss l) v

-- legs on the same line as this one have its sectors
abbrev pub SuitsAll : Slot → List Slot → Type 0
SuitsAll s [] = Unit {0}
SuitsAll s (t ∷ ts) = (t.end.label ≡ s.end.label → t.sectors ≡ s.sectors) × SuitsAll s ts

-- the two legs of each line have the same sectors
abbrev pub IsUniform : List Slot → Type 0
IsUniform [] = Unit {0}
IsUniform (s ∷ ss) = SuitsAll s ss × IsUniform ss

abbrev pub is_positive : ℤ → Bool
is_positive (pos n) = not (n == 0)
is_positive (negsuc n) = false

-- the line of a leg, twisted where its label is among the twists
abbrev pub bond_at : List ℤ → Slot → Bond
bond_at twists s = record { label = s.end.label; dim = total s.sectors; twisted = is_in int_eq s.end.label twists }

-- the lines with positive labels, by their inward ends
abbrev pub bonds_from : List ℤ → List Slot → List Bond
bonds_from twists [] = []
bonds_from twists (s ∷ ss) =
    if s.end.inward && is_positive s.end.label then bond_at twists s ∷ bonds_from twists ss else bonds_from twists ss

abbrev pub place_bond : Bond → List Bond → List Bond
place_bond b [] = b ∷ []
place_bond b (c ∷ cs) = if int_lt b.label c.label then b ∷ c ∷ cs else c ∷ place_bond b cs

abbrev pub in_label_order : List Bond → List Bond
in_label_order [] = []
in_label_order (b ∷ bs) = place_bond b (in_label_order bs)

-- the positive labels ascending
abbrev pub bonds_of : List ℤ → List Slot → List Bond
bonds_of twists ss = in_label_order (bonds_from twists ss)

-- the end with the label -1 - i
abbrev pub open_end : List End → ℕ → End
open_end es i = record { label = negsuc i; inward = is_in same_end (record { label = negsuc i; inward = true }) es }

-- the ends with the labels -1, -2, .. -n
abbrev pub opens_of : List End → ℕ → List End
opens_of es zero = []
opens_of es (suc n) = opens_of es n ++ open_end es n ∷ []

-- a positive label stands on an inward and an outward leg, and -1 to -n on one leg each; no other label stands anywhere
pub record IsWellLabelled (es : List End) (n : ℕ) : Type 0 where
  pub distinct : IsDistinct same_end es
  pub paired : (l : ℤ) → is_positive l ≡ true →
      is_in same_end (record { label = l; inward = true }) es ≡ is_in same_end (record { label = l; inward = false }) es
  pub open_once : (i : ℕ) → i < n →
      is_in same_end (record { label = negsuc i; inward = true }) es ≡ not (is_in same_end (record { label = negsuc i; inward = false }) es)
  pub no_more : (e : End) → is_in same_end e es ≡ true →
      (is_positive e.label ≡ true) ⊎ ((i : ℕ) × (i < n) × (e.label ≡ negsuc i))

-- the value of the network with these twisted labels, at values of its n open legs -1, -2, .. -n
abbrev pub value_of : List Factor → List Placed → List ℤ → ℕ → List ℕ → Gaussian
value_of fs ps twists n xs =
    let opens = opens_of (ends (slots ps)) n in
    flat (parity_of fs (slots ps)) (map node_of ps) (bonds_of twists (slots ps)) opens (at_values opens xs)

-- the same tensors, with other labels that these names give
abbrev pub AreRenamed : (ℤ → ℤ) → List Placed → List Placed → Type 0
AreRenamed f [] [] = Unit {0}
AreRenamed f [] (q ∷ qs) = ⊥
AreRenamed f (p ∷ ps) [] = ⊥
AreRenamed f (p ∷ ps) (q ∷ qs) = (p.tensor ≡ q.tensor) × (map f p.labels ≡ q.labels) × AreRenamed f ps qs
