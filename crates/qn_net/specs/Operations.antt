-- Operations on tensors with labels as steps of a network: what a step makes of the tensors of its groups is a tensor of its result.
-- NCON, arXiv:1402.0939; Fishman, White and Stoudenmire 2022.
use Rattle.std.specs.Prelude.{◌≡◌, ◌≢◌, ◌<◌, ℕ, ℤ, pos, negsuc, Bool, not, List, [], ◌∷◌, ◌++◌, length, map, filter}
use Rattle.std.specs.List.{All, flat_map}
use Rattle.std.specs.Ordering.{int_eq}
use Rattle.qn_sign.specs.Sign.{is_in}
use Rattle.qn_sign.specs.Positions.{positions, IsOrder}
use Rattle.qn_charge.specs.declared.factor.Factor.{Factor}
use Rattle.qn_charge.specs.Charges.{sum_charge, parity}
use Rattle.qn_index.specs.Legs.{SectorValue, LegValue, total, parity_at}
use Rattle.qn_index.specs.Tuples.{admitted}
use Rattle.qn_index.specs.Places.{IsValues}
use Rattle.qn_value.specs.Networks.{End, Node, Bond, Parities, labels, odd_flux}
use Rattle.qn_value.specs.Tensors.{TensorValue, IsTensor, entry_of}
use Rattle.qn_value.specs.Labels.{Placed, ends}
use Rattle.qn_value.specs.Blocks.{legs_on}
use Rattle.qn_value.specs.Fluxes.{sum_flux}
use Rattle.qn_value.specs.Local.{picked, open_legs, shared_couples, IsCoupling, Moved, Traced, Pairwise}
use Rattle.qn_value.specs.Magnitudes.{first_passing, pair_magnitude, trace_magnitude}
use Rattle.qn_net.specs.Groups.{TensorGroup, nodes, flux_of}
use Rattle.qn_net.specs.Steps.{Step, State, result, carry, IsStepAt}
use Rattle.qn_net.specs.Steps.Step.{pair, trace}
use Rattle.qn_net.specs.Carried.{IsSoundState}
use Rattle.qn_net.specs.TwistedSteps.{twisted_where, twisted_inward}
use Rattle.qn_net.specs.Passing.{result_magnitude, result_legs, made}
use Rattle.qn_net.specs.NetworkValues.{NetworkValue, IsWellFormed, placed, legs_of, parities, sectors, open_count, opens, begin, steps, value}
use Rattle.qn_net.specs.Refusals.{label_at}

-- the parity of each value of each line
abbrev pub parities_on : List Factor → (ℤ → List SectorValue) → Parities
parities_on fs sectors l v = parity_at fs (sectors l) v

-- the tensor with its labels is this one of a network over these charges, whose lines have these sectors
pub record IsNodeOf (fs : List Factor) (sectors : ℤ → List SectorValue) (p : Placed) (n : Node) : Type 0 where
  pub group : p.tensor.group ≡ fs
  pub tensor : IsTensor p.tensor
  pub labels : p.labels ≡ map (λ e. e.label) n.ends
  pub legs : p.tensor.legs ≡ legs_on sectors n.ends
  pub odd : parity fs p.tensor.flux ≡ n.odd
  pub entry : (xs : List ℕ) → length xs ≡ length n.ends → entry_of p.tensor xs ≡ n.entry xs

-- the tensor with its labels is that of the group, with its flux
pub record IsTensorOf (fs : List Factor) (sectors : ℤ → List SectorValue) (p : Placed) (g : TensorGroup) : Type 0 where
  pub node : IsNodeOf fs sectors p g.node
  pub flux : p.tensor.flux ≡ flux_of fs g

-- the tensors are those of the groups, one by one
abbrev pub AreTensorsOf : List Factor → (ℤ → List SectorValue) → List Placed → List TensorGroup → Type 0
AreTensorsOf fs sectors [] [] = Unit {0}
AreTensorsOf fs sectors [] (g ∷ gs) = ⊥
AreTensorsOf fs sectors (p ∷ ps) [] = ⊥
AreTensorsOf fs sectors (p ∷ ps) (g ∷ gs) = IsTensorOf fs sectors p g × AreTensorsOf fs sectors ps gs

-- lines with the values of their sectors, twisted where their labels are among these
abbrev pub AreTwistedLines : List ℤ → (ℤ → List SectorValue) → List Bond → Type 0
AreTwistedLines twists sectors [] = Unit {0}
AreTwistedLines twists sectors (b ∷ bs) = (b.dim ≡ total (sectors b.label)) × (b.twisted ≡ is_in int_eq b.label twists) × AreTwistedLines twists sectors bs

-- lines that are not twisted
abbrev pub AreLines : (ℤ → List SectorValue) → List Bond → Type 0
AreLines sectors bs = AreTwistedLines [] sectors bs

-- the couples of places of one tensor with these labels are the two ends of each line, in the order of the lines
pub record AreCouplesOf (ls : List ℤ) (bonds : List Bond) (couples : List (ℕ × ℕ)) : Type 0 where
  pub first : map (λ c. label_at ls c.0) couples ≡ labels bonds
  pub second : map (λ c. label_at ls c.1) couples ≡ labels bonds
  pub within : All (λ c. (c.0 < length ls) × (c.1 < length ls) × (c.0 ≢ c.1)) couples

-- the pairs of places, in one tensor and in another, are the two ends of each line, in the order of the lines
pub record ArePairsOf (ks ls : List ℤ) (bonds : List Bond) (shared : List (ℕ × ℕ)) : Type 0 where
  pub first : map (λ c. label_at ks c.0) shared ≡ labels bonds
  pub second : map (λ c. label_at ls c.1) shared ≡ labels bonds
  pub within : All (λ c. (c.0 < length ks) × (c.1 < length ls)) shared

-- the labels that are left where these lines are summed
abbrev pub labels_left : List ℤ → List Bond → List ℤ
labels_left ls bonds = filter (λ l. not (is_in int_eq l (labels bonds))) ls

-- the labels of open legs: -1, -2, .. -n
abbrev pub open_labels : ℕ → List ℤ
open_labels n = map negsuc (positions n)

-- before the first step the tensors of the groups are those of the members, and the lines are twisted where the network says so
abbrev pub FirstTensorsLaw : Type 0
FirstTensorsLaw =
    (net : NetworkValue) → IsWellFormed net →
    AreTensorsOf net.group (sectors net) (placed net) (begin net).groups
    × AreTwistedLines net.twists (sectors net) (begin net).left

-- what a step leaves are lines as before
abbrev pub LinesLaw : Type 0
LinesLaw =
    (twists : List ℤ) (sectors : ℤ → List SectorValue) (par : Parities) (s : State) (t : Step) →
    AreTwistedLines twists sectors s.left → IsStepAt s t → AreTwistedLines twists sectors (carry par (t ∷ []) s).left

-- what is made of two tensors whose pairs of legs are the ends of these lines: the pairs are coupled; the two contracted, with the labels left, are the tensor of the
-- step's result, which has these legs; and the first passing place of the contraction is that of the step
abbrev pub IsPairMade : List Factor → (ℤ → List SectorValue) → Step → List Bond → Bool → Placed → Placed → List (ℕ × ℕ) → Type 0
IsPairMade fs sectors t bonds between p q shared =
    let par : Parities = parities_on fs sectors in
    let a : TensorValue = p.tensor in
    let b : TensorValue = q.tensor in
    let legs : List LegValue = open_legs (a ∷ b ∷ []) (shared_couples a shared) in
    IsCoupling (flat_map (λ x. x.legs) (a ∷ b ∷ [])) (shared_couples a shared)
    × ((r : TensorValue) → IsTensor r → Pairwise a b shared between r →
    IsTensorOf fs sectors (record { tensor = r; labels = labels_left (p.labels ++ q.labels) bonds }) (result par t))
    × (legs ≡ result_legs par sectors t)
    × (sum_charge fs a.flux b.flux ≡ flux_of fs (result par t))
    × (first_passing (pair_magnitude a b shared) legs (admitted fs legs (sum_charge fs a.flux b.flux)) ≡
    first_passing (result_magnitude par made t) (result_legs par sectors t) (admitted fs (result_legs par sectors t) (flux_of fs (result par t))))

-- likewise of one tensor whose couples of legs are the ends of these lines
abbrev pub IsTraceMade : List Factor → (ℤ → List SectorValue) → Step → List Bond → Placed → List (ℕ × ℕ) → Type 0
IsTraceMade fs sectors t bonds p couples =
    let par : Parities = parities_on fs sectors in
    let a : TensorValue = p.tensor in
    let legs : List LegValue = open_legs (a ∷ []) couples in
    IsCoupling a.legs couples
    × ((r : TensorValue) → IsTensor r → Traced a couples r →
    IsTensorOf fs sectors (record { tensor = r; labels = labels_left p.labels bonds }) (result par t))
    × (legs ≡ result_legs par sectors t)
    × (a.flux ≡ flux_of fs (result par t))
    × (first_passing (trace_magnitude a couples) legs (admitted fs legs a.flux) ≡
    first_passing (result_magnitude par made t) (result_legs par sectors t) (admitted fs (result_legs par sectors t) (flux_of fs (result par t))))

-- a pair step, before which the earlier or the later tensor is twisted
abbrev pub PairStepLaw : Type 0
PairStepLaw =
    (fs : List Factor) (sectors : ℤ → List SectorValue) (opens : List End) (s : State)
    (before : List TensorGroup) (g : TensorGroup) (between : List TensorGroup) (h : TensorGroup) (behind : List TensorGroup) (bonds left : List Bond)
    (twists : List ℤ) (earlier : Bool) (p q : Placed) (shared : List (ℕ × ℕ)) →
    let par : Parities = parities_on fs sectors in
    let t : Step = pair before g between h behind bonds left in
    IsSoundState par opens s → IsStepAt s t → AreTwistedLines twists sectors s.left →
    IsTensorOf fs sectors p (twisted_where earlier par bonds g) → IsTensorOf fs sectors q (twisted_where (not earlier) par bonds h) →
    ArePairsOf p.labels q.labels bonds shared → IsPairMade fs sectors t bonds (odd_flux (nodes between)) p q shared

-- a trace step, before which the tensor is twisted
abbrev pub TraceStepLaw : Type 0
TraceStepLaw =
    (fs : List Factor) (sectors : ℤ → List SectorValue) (opens : List End) (s : State)
    (before : List TensorGroup) (g : TensorGroup) (behind : List TensorGroup) (bonds left : List Bond)
    (twists : List ℤ) (p : Placed) (couples : List (ℕ × ℕ)) →
    let par : Parities = parities_on fs sectors in
    let t : Step = trace before g behind bonds left in
    IsSoundState par opens s → IsStepAt s t → AreTwistedLines twists sectors s.left → IsTensorOf fs sectors p (twisted_inward par bonds g) →
    AreCouplesOf p.labels bonds couples → IsTraceMade fs sectors t bonds p couples

-- the last tensor with its legs in the order of the open labels has the value of the network, the legs of the open lines, and the flux of all members
abbrev pub LastTensorLaw : Type 0
LastTensorLaw =
    (net : NetworkValue) (last : TensorGroup) (p : Placed) (order : List ℕ) → IsWellFormed net →
    carry (parities net) (steps net) (begin net) ≡ record { groups = last ∷ []; left = [] } →
    IsTensorOf net.group (sectors net) p last → All (λ k. k < length p.labels) order →
    picked (pos 0) p.labels order ≡ open_labels (open_count (ends (legs_of net))) →
    IsOrder (length p.tensor.legs) order
    × ((r : TensorValue) → Moved p.tensor order r →
    (r.legs ≡ legs_on (sectors net) (opens net))
    × (r.flux ≡ sum_flux net.group (map (λ m. m.placed.tensor.flux) net.members))
    × ((xs : List ℕ) → IsValues r.legs xs → entry_of r xs ≡ value net xs))
