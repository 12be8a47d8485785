-- Where the sums of the steps of a plan grow too large to be kept.
-- The magnitude of a + b i is |a| + |b|, and no stored entry has one above 2^127 - 1.
use Rattle.std.specs.Prelude.{◌≡◌, ℕ, suc, ℤ, Option, Some, None, List, [], ◌∷◌, map}
use Rattle.qn_charge.specs.declared.factor.Factor.{Factor}
use Rattle.qn_charge.specs.Charges.{IsGroup}
use Rattle.qn_index.specs.Legs.{SectorValue, LegValue}
use Rattle.qn_index.specs.Tuples.{tuples, admitted}
use Rattle.qn_value.specs.Networks.{End, Node, Bond, Assignment, Parities, at_values, AreHomogeneous, IsNetwork}
use Rattle.qn_value.specs.Blocks.{legs_on}
use Rattle.qn_value.specs.Fluxes.{AllConserve, charge_on}
use Rattle.qn_value.specs.Magnitudes.{Place, total, magnitudes, first_passing}
use Rattle.qn_net.specs.Groups.{Member, TensorGroup, flux_of}
use Rattle.qn_net.specs.Steps.{Step, result}
use Rattle.qn_net.specs.Steps.Step.{pair, trace}
use Rattle.qn_net.specs.Plans.{plan, first_state}
use Rattle.qn_net.specs.Parts.{part}
use Rattle.qn_net.specs.Carried.{Covers}

-- the groups that a step takes
abbrev pub takes : Step → List TensorGroup
takes (pair before g between h behind bonds left) = g ∷ h ∷ []
takes (trace before g behind bonds left) = g ∷ []

-- the lines that a step sums
abbrev pub sums_over : Step → List Bond
sums_over (pair before g between h behind bonds left) = bonds
sums_over (trace before g behind bonds left) = bonds

-- the sum of magnitudes of a step, where each group is seen as this tensor: over the values of the lines, the product of the magnitudes of the entries
abbrev pub step_magnitude : (TensorGroup → Node) → Step → Assignment → ℕ
step_magnitude seen t a = total (sums_over t) (magnitudes (map seen (takes t))) a

-- the sum of magnitudes at an entry of the step's result
abbrev pub result_magnitude : Parities → (TensorGroup → Node) → Step → List ℕ → ℕ
result_magnitude par seen t xs = step_magnitude seen t (at_values (result par t).node.ends xs)

-- the legs of the step's result, each with the sectors of its line
abbrev pub result_legs : Parities → (ℤ → List SectorValue) → Step → List LegValue
result_legs par sectors t = legs_on sectors (result par t).node.ends

-- a place of a step's result: the number of the step, a tuple of sectors, and an offset in its block
pub record StepPlace : Type 0 where
  pub step : ℕ
  pub tuple : List ℕ
  pub offset : ℕ

abbrev pub place_of_step : ℕ → Option Place → Option StepPlace → Option StepPlace
place_of_step n None later = later
place_of_step n (Some p) later = Some (record { step = n; tuple = p.tuple; offset = p.offset })

-- the first passing place of the steps, numbered from n: by the step, then by the ascending tuple of its result, then by the offset in the block
abbrev pub first_passing_step : Parities → (ℤ → List SectorValue) → (TensorGroup → Node) → ℕ → List Step → Option StepPlace
first_passing_step par sectors seen n [] = None
first_passing_step par sectors seen n (t ∷ ts) =
    let legs : List LegValue = result_legs par sectors t in
    place_of_step n (first_passing (result_magnitude par seen t) legs (tuples legs)) (first_passing_step par sectors seen (suc n) ts)

-- the tensor that the steps made of a group
abbrev pub made : TensorGroup → Node
made g = g.node

-- the tensors that the steps made pass where the parts of the groups do
abbrev pub PassLaw : Type 0
PassLaw =
    (par : Parities) (m : Member) (ms : List Member) (bonds : List Bond) (opens : List End) (order : List ℤ) (sectors : ℤ → List SectorValue) →
    let ns : List Node = map (λ k. k.node) (m ∷ ms) in
    let ts : List Step = plan par order (first_state (m ∷ ms) bonds) in
    IsNetwork ns bonds opens → AreHomogeneous par ns → Covers order bonds →
    first_passing_step par sectors (part par) 1 ts ≡ first_passing_step par sectors made 1 ts

-- the first passing place over the admissible tuples alone, by the tensors that the steps made
abbrev pub first_admissible_step : Parities → List Factor → (ℤ → List SectorValue) → ℕ → List Step → Option StepPlace
first_admissible_step par fs sectors n [] = None
first_admissible_step par fs sectors n (t ∷ ts) =
    let legs : List LegValue = result_legs par sectors t in
    place_of_step n (first_passing (result_magnitude par made t) legs (admitted fs legs (flux_of fs (result par t)))) (first_admissible_step par fs sectors (suc n) ts)

-- what is found by the tensors that the steps made, over admissible tuples alone, is the first passing place by the parts over all tuples
abbrev pub AdmissibleLaw : Type 0
AdmissibleLaw =
    (par : Parities) (fs : List Factor) (sectors : ℤ → List SectorValue) (m : Member) (ms : List Member) (bonds : List Bond) (opens : List End) (order : List ℤ) →
    let ns : List Node = map (λ k. k.node) (m ∷ ms) in
    let ts : List Step = plan par order (first_state (m ∷ ms) bonds) in
    IsGroup fs → IsNetwork ns bonds opens → AreHomogeneous par ns → AllConserve fs (charge_on sectors) ns (map (λ k. k.flux) (m ∷ ms)) → Covers order bonds →
    first_passing_step par sectors (part par) 1 ts ≡ first_admissible_step par fs sectors 1 ts
