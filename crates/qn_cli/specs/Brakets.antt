-- What two states come to: their overlap, and the expectation of an operator sum between them.
-- Source: Fishman, White and Stoudenmire 2022; Jordan and Wigner for the strings of the sum.
use Rattle.std.specs.Prelude.{◌≡◌, ◌⊎◌, ◌+◌, ◌≤◌, ◌<◌, ◌^◌, ℕ, ℤ, List, [], length, filter, None}
use Rattle.std.specs.List.{sum_by}
use Rattle.qn_gauss.specs.Gaussian.{Gaussian}
use Rattle.qn_charge.specs.declared.factor.Factor.{Factor}
use Rattle.qn_charge.specs.Charges.{sum_charge, neg_charge}
use Rattle.qn_charge.specs.Firsts.{HasNone}
use Rattle.qn_index.specs.Legs.{LegValue}
use Rattle.qn_index.specs.Tuples.{admitted}
use Rattle.qn_value.specs.Magnitudes.{all_blocks}
use Rattle.qn_block.specs.Blocked.{BlockedValue, is_filled}
use Rattle.qn_net.specs.NetworkValues.{NetworkValue, passing_place}
use Rattle.qn_plan.specs.Planned.{StepValue, first_wide, cost_of_plan, planned}
use Rattle.qn_opsum.specs.Sums.{SumValue}
use Rattle.qn_auto.specs.SumAutomaton.{IsWideAt, PassesAt, made_of}
use Rattle.qn_paths.specs.Sums.{sum_element}
use Rattle.qn_braket.specs.Chains.{IsOverlapNetwork, IsExpectNetwork, chain_flux, overlap, expectation}
use Rattle.qn_mps.specs.Chains.{ChainValue}
use Rattle.qn_parts.specs.declared.fault.Fault.{Fault}
use Rattle.qn_parts.specs.TensorTexts.{tensor_text}
use Rattle.qn_cli.specs.Outcomes.{Outcome, refused, passed, answered}
use Rattle.qn_cli.specs.Networks.{IsWideStep, IsPassingPlace}
use Rattle.qn_cli.specs.Operators.{IsWideSite, IsPassingSite, automaton}

-- two states on the same sites: the group of their charges, the legs of the sites, and the tensors of both
pub record BraketValue : Type 0 where
  pub group : List Factor
  pub sites : List LegValue
  pub bra : List BlockedValue
  pub ket : List BlockedValue

-- two chains on the same sites as states
abbrev pub pair_of : ChainValue → ChainValue → BraketValue
pair_of first second = record { group = first.group; sites = first.sites; bra = first.tensors; ket = second.tensors }

-- a number as a tensor without legs: one block, or none where the number is 0 or the flux is not
abbrev pub scalar_tensor : List Factor → List ℤ → Gaussian → BlockedValue
scalar_tensor fs flux x = record { group = fs; legs = []; flux = flux; blocks = filter is_filled (all_blocks (λ xs. x) [] (admitted fs [] flux)) }

-- ---- the overlap

-- the flux of the ket less that of the bra
abbrev pub overlap_flux : BraketValue → List ℤ
overlap_flux b = sum_charge b.group (chain_flux b.group b.ket) (neg_charge b.group (chain_flux b.group b.bra))

-- the text of the overlap: the sum over s of conj(bra's amplitude at s) times ket's amplitude at s
abbrev pub overlap_text : BraketValue → List ℕ
overlap_text b = tensor_text (scalar_tensor b.group (overlap_flux b) (overlap b.group b.sites b.bra b.ket))

-- the network of the overlap
abbrev pub IsOverlapOf : BraketValue → NetworkValue → Type 0
IsOverlapOf b net = IsOverlapNetwork b.group b.bra b.ket net

-- a document says two states of which this holds
pub record SaysSuch (Says P : BraketValue → Type 0) : Type 0 where
  pub states : BraketValue
  pub says : Says states
  pub such : P states

-- F27: the first step of the network whose result is too wide
abbrev pub IsWideOverlap : Fault → BraketValue → Type 0
IsWideOverlap f b = (net : NetworkValue) × IsOverlapOf b net × IsWideStep net f

-- the first step that passes
abbrev pub IsPassingOverlap : ℕ → List ℕ → ℕ → BraketValue → Type 0
IsPassingOverlap step at offset b = (net : NetworkValue) × IsOverlapOf b net × IsPassingPlace net step at offset

-- no step is too wide, no step passes, and this is the text
abbrev pub IsOverlapText : List ℕ → BraketValue → Type 0
IsOverlapText text b = (net : NetworkValue) × IsOverlapOf b net × (first_wide net ≡ None) × (passing_place net ≡ None) × (text ≡ overlap_text b)

-- the overlap of the states that a document says, or its first fault, or the first step that passes; the document has these faults or says these states
abbrev pub Overlaps : (Fault → Type 0) → (BraketValue → Type 0) → Outcome → Type 0
Overlaps IsFault Says (refused f) = IsFault f ⊎ SaysSuch Says (IsWideOverlap f)
Overlaps IsFault Says (passed step at offset) = SaysSuch Says (IsPassingOverlap step at offset)
Overlaps IsFault Says (answered text) = SaysSuch Says (IsOverlapText text)

-- at most this many multiplications, where no step is too wide: those of the plan
abbrev pub IsOverlapCost : ℕ → BraketValue → Type 0
IsOverlapCost n b = (net : NetworkValue) × IsOverlapOf b net × (first_wide net ≡ None) × (n ≡ cost_of_plan net)

-- ---- the expectation

-- the flux of the ket, plus that of the sum, less that of the bra
abbrev pub expect_flux : BraketValue → SumValue → List ℤ
expect_flux b v = sum_charge b.group (sum_charge b.group v.flux (chain_flux b.group b.ket)) (neg_charge b.group (chain_flux b.group b.bra))

-- the expectation: the sum over t and s of conj(bra's amplitude at t) times the sum of the operator strings from s to t times ket's amplitude at s
abbrev pub expectation_of : BraketValue → SumValue → Gaussian
expectation_of b v = expectation b.group b.sites (sum_element v) b.bra b.ket

-- the text of the expectation, whatever its network
abbrev pub expect_text : BraketValue → SumValue → NetworkValue → List ℕ
expect_text b v net = tensor_text (scalar_tensor b.group (expect_flux b v) (expectation_of b v))

-- the network of the expectation: the automaton of the sum between the states
abbrev pub IsExpectOf : BraketValue → SumValue → NetworkValue → Type 0
IsExpectOf b v net = IsExpectNetwork b.group b.bra (automaton v) b.ket net

-- a document says two states and an operator sum of which this holds
pub record SaysSuchSum (Says P : BraketValue → SumValue → Type 0) : Type 0 where
  pub states : BraketValue
  pub sum : SumValue
  pub says : Says states sum
  pub such : P states sum

-- the first step of the network whose result is too wide
abbrev pub IsWideExpectStep : Fault → BraketValue → SumValue → Type 0
IsWideExpectStep f b v = (net : NetworkValue) × IsExpectOf b v net × IsWideStep net f

-- F27: the first site at which the automaton is too wide, or where there is none the first step of the network whose result is too wide
abbrev pub IsWideExpect : Fault → BraketValue → SumValue → Type 0
IsWideExpect f b v = IsWideSite v f ⊎ (HasNone (IsWideAt v) × IsWideExpectStep f b v)

-- the plan of an expectation: that of its network, in which no step is too wide
pub record IsExpectPlan (b : BraketValue) (v : SumValue) (plan : List StepValue) : Type 0 where
  pub steps : (net : NetworkValue) → IsExpectOf b v net → plan ≡ planned net
  pub narrow : (net : NetworkValue) → IsExpectOf b v net → first_wide net ≡ None
  pub few : length plan ≤ 8448
  pub bounded : sum_by (λ s. s.cost) plan < 2 ^ 64

-- the network, where the automaton and the steps are nowhere too wide
pub record IsNarrowExpect (b : BraketValue) (v : SumValue) (net : NetworkValue) : Type 0 where
  pub sites : HasNone (IsWideAt v)
  pub network : IsExpectOf b v net
  pub steps : first_wide net ≡ None

-- nothing is too wide, and this is the first passing place: that of the build, which is step 0, or where it does not pass that of the network
abbrev pub IsPassingExpect : ℕ → List ℕ → ℕ → BraketValue → SumValue → Type 0
IsPassingExpect step at offset b v =
    (net : NetworkValue) × IsNarrowExpect b v net
    × (IsPassingSite v step at offset ⊎ (HasNone (PassesAt v) × IsPassingPlace net step at offset))

-- nothing is too wide and nothing passes, and this is the text
abbrev pub IsExpectText : (BraketValue → SumValue → NetworkValue → List ℕ) → List ℕ → BraketValue → SumValue → Type 0
IsExpectText text_of text b v = (net : NetworkValue) × IsNarrowExpect b v net × HasNone (PassesAt v) × (passing_place net ≡ None) × (text ≡ text_of b v net)

-- an expectation with this text, or the document's first fault, or the first passing place; the document has these faults or says these states and this sum
abbrev pub Expects : (Fault → Type 0) → (BraketValue → SumValue → Type 0) → (BraketValue → SumValue → NetworkValue → List ℕ) → Outcome → Type 0
Expects IsFault Says text_of (refused f) = IsFault f ⊎ SaysSuchSum Says (IsWideExpect f)
Expects IsFault Says text_of (passed step at offset) = SaysSuchSum Says (IsPassingExpect step at offset)
Expects IsFault Says text_of (answered text) = SaysSuchSum Says (IsExpectText text_of text)

-- at most this many multiplications, where nothing is too wide: those of the build and of the plan
abbrev pub IsExpectCost : ℕ → BraketValue → SumValue → Type 0
IsExpectCost n b v = (net : NetworkValue) × IsNarrowExpect b v net × (n ≡ made_of v + cost_of_plan net)
