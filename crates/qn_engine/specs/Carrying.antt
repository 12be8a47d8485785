-- How far the engine has come on its way through the steps of a network.
use Rattle.std.specs.Prelude.{◌≡◌, ◌<◌, ◌+◌, ℕ, ℤ, Bool, false, Option, Some, None, List, [], ◌∷◌, length, take, slice_index_or}
use Rattle.qn_gauss.specs.Gaussian.{zero_g}
use Rattle.qn_index.specs.Tuples.{admitted}
use Rattle.qn_value.specs.Networks.{labels, odd_flux}
use Rattle.qn_value.specs.Magnitudes.{Place, first_passing}
use Rattle.qn_net.specs.Groups.{TensorGroup, nodes, flux_of}
use Rattle.qn_net.specs.Groups.Role.{tensor}
use Rattle.qn_net.specs.Steps.{Step, State, result, after, carry, written, IsStepAt}
use Rattle.qn_net.specs.Steps.Kind.{fuse_step}
use Rattle.qn_net.specs.Steps.Step.{pair, trace}
use Rattle.qn_net.specs.Carried.{IsSoundState}
use Rattle.qn_net.specs.Passing.{takes, sums_over, result_magnitude, result_legs, first_admissible_step, made}
use Rattle.qn_net.specs.NetworkValues.{NetworkValue, parities, sectors, opens, begin, steps, passing_place, IsWellFormed}
use Rattle.qn_net.specs.Members.{LabelledMember, IsHeld}
use Rattle.qn_net.specs.Operations.{AreTwistedLines}
use Rattle.qn_plan.specs.Shapes.{shape_of}
use Rattle.qn_plan.specs.Planned.{StepValue, planned_step, planned, first_wide}
use Rattle.qn_plan.specs.Conditions.{CanCost}
use Rattle.qn_plan.specs.Reached.{IsFitting}
use Rattle.qn_engine.specs.Parts.{PartValue, IsPartOf, ArePartsOf, IsSmallMember}
use Rattle.qn_engine.specs.declared.fault.EngineFault.{EngineFault}
use Rattle.qn_engine.specs.declared.fault.EngineFault.TheVariants.{Wide, Passed, Memory}

abbrev pub no_group : TensorGroup
no_group = record { number = 0; node = record { ends = []; entry = λ xs. zero_g; odd = false }; members = []; summed = []; role = tensor }

-- the step after the first n
abbrev pub step_at : NetworkValue → ℕ → Step
step_at net n = slice_index_or (steps net) n (trace [] no_group [] [] [])

-- the state after the first n steps
abbrev pub state_at : NetworkValue → ℕ → State
state_at net n = carry (parities net) (take n (steps net)) (begin net)

-- the group that the step after the first n makes
abbrev pub result_at : NetworkValue → ℕ → TensorGroup
result_at net n = result (parities net) (step_at net n)

-- whether what stands between the two groups of a step has odd flux
abbrev pub is_odd_between : Step → Bool
is_odd_between (pair before g between h behind bonds left) = odd_flux (nodes between)
is_odd_between (trace before g behind bonds left) = false

-- the first passing place of the step after the first n
abbrev pub passing_at : NetworkValue → ℕ → Option Place
passing_at net n =
    let t : Step = step_at net n in
    first_passing (result_magnitude (parities net) made t) (result_legs (parities net) (sectors net) t) (admitted net.group (result_legs (parities net) (sectors net) t) (flux_of net.group (result_at net n)))

-- the first n steps do not pass
abbrev pub AreClear : NetworkValue → ℕ → Type 0
AreClear net n = first_admissible_step (parities net) net.group (sectors net) 1 (take n (steps net)) ≡ None

-- the two groups of a pair step can be contracted
abbrev pub CanTake : NetworkValue → Step → Type 0
CanTake net (pair before g between h behind bonds left) = CanCost net.group (shape_of net.group (sectors net) g) (shape_of net.group (sectors net) h) (labels bonds)
CanTake net (trace before g behind bonds left) = Unit {0}

-- what holds of the step after the first n: it is one of a sound state, whose lines are twisted where the network says so; its result is within the limits; and where it fuses or splits it is not the first to pass
pub record IsReady (net : NetworkValue) (n : ℕ) : Type 0 where
  pub sound : IsSoundState (parities net) (opens net) (state_at net n)
  pub step : IsStepAt (state_at net n) (step_at net n)
  pub next : state_at net (n + 1) ≡ after (parities net) (step_at net n)
  pub lines : AreTwistedLines net.twists (sectors net) (state_at net n).left
  pub can : CanTake net (step_at net n)
  pub fitting : IsFitting net.group (sectors net) (result_at net n)
  pub silent : (written (step_at net n)).kind ≡ fuse_step → AreClear net n → passing_at net n ≡ None

abbrev pub AreReady : NetworkValue → Type 0
AreReady net = (n : ℕ) → n < length (steps net) → IsReady net n

-- after the first n steps the parts are the tensors of the groups, and no step has passed
pub record IsCarried (net : NetworkValue) (n : ℕ) (parts : List PartValue) : Type 0 where
  pub parts_of : ArePartsOf net.group (sectors net) parts (state_at net n).groups
  pub clear : AreClear net n

-- the step after the first n passes, first at this place, or memory was wanting
abbrev pub IsPassedAt : NetworkValue → ℕ → EngineFault → Type 0
IsPassedAt net n (Wide step) = ⊥
IsPassedAt net n (Passed step at offset) = (step ≡ n + 1) × (passing_at net n ≡ Some (record { tuple = at; offset = offset }))
IsPassedAt net n Memory = Unit {0}

-- the part is what the step after the first n sums, over these labels; and these are the twisted labels
pub record IsTraceAt (net : NetworkValue) (n : ℕ) (p : PartValue) (summed twist : List ℤ) : Type 0 where
  pub ready : IsReady net n
  pub taken : ArePartsOf net.group (sectors net) (p ∷ []) (takes (step_at net n))
  pub over : summed ≡ labels (sums_over (step_at net n))
  pub twists : twist ≡ net.twists

-- the parts are the two that the step after the first n brings together, over these labels; between them the flux is odd or not; and these are the twisted labels
pub record IsPairAt (net : NetworkValue) (n : ℕ) (p q : PartValue) (between : Bool) (summed twist : List ℤ) : Type 0 where
  pub ready : IsReady net n
  pub taken : ArePartsOf net.group (sectors net) (p ∷ q ∷ []) (takes (step_at net n))
  pub odd : between ≡ is_odd_between (step_at net n)
  pub over : summed ≡ labels (sums_over (step_at net n))
  pub twists : twist ≡ net.twists

-- the part is what the step after the first n makes
abbrev pub IsMadeAt : NetworkValue → ℕ → PartValue → Type 0
IsMadeAt net n r = IsPartOf net.group (sectors net) r (result_at net n)

-- after the first n steps of a network none of which has a result that is too wide, this is the next one; and these are the twisted labels
pub record IsNext (net : NetworkValue) (n : ℕ) (parts : List PartValue) (step : StepValue) (twist : List ℤ) : Type 0 where
  pub ready : AreReady net
  pub narrow : first_wide net ≡ None
  pub place : passing_place net ≡ first_admissible_step (parities net) net.group (sectors net) 1 (steps net)
  pub carried : IsCarried net n parts
  pub within : n < length (steps net)
  pub step_is : step ≡ planned_step net (step_at net n)
  pub twists : twist ≡ net.twists

-- the lists are the plan and the twisted labels of a network none of whose steps has a result that is too wide, and its first n steps are taken
pub record IsOnWay (net : NetworkValue) (plan : List StepValue) (twist : List ℤ) (n : ℕ) (parts : List PartValue) : Type 0 where
  pub is : plan ≡ planned net
  pub twists : twist ≡ net.twists
  pub ready : AreReady net
  pub narrow : first_wide net ≡ None
  pub place : passing_place net ≡ first_admissible_step (parities net) net.group (sectors net) 1 (steps net)
  pub carried : IsCarried net n parts

-- all steps of a network are taken
pub record IsFinished (net : NetworkValue) (parts : List PartValue) : Type 0 where
  pub formed : IsWellFormed net
  pub carried : IsCarried net (length (steps net)) parts

-- what holds of the first n members
pub record AreKnown (ms : List LabelledMember) (n : ℕ) : Type 0 where
  pub held : (k : ℕ) (d : LabelledMember) → k < n → IsHeld (slice_index_or ms k d).member
  pub small : (k : ℕ) (d : LabelledMember) → k < n → IsSmallMember (slice_index_or ms k d).member
