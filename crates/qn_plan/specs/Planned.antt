-- The plan of a network with the costs of its steps, and the first step whose result is too wide.
-- NCON, arXiv:1402.0939; Singh, Pfeifer and Vidal 2010 for the cost.
use Rattle.std.specs.Prelude.{◌≡◌, ◌^◌, ℕ, suc, ℤ, Bool, ◌||◌, Option, Some, None, List, [], ◌∷◌, length, map, nat_lt, if◌then◌else◌}
use Rattle.std.specs.List.{sum_by}
use Rattle.qn_charge.specs.declared.factor.Factor.{Factor}
use Rattle.qn_index.specs.Legs.{LegValue}
use Rattle.qn_index.specs.Tuples.{count}
use Rattle.qn_index.specs.Extents.{entries}
use Rattle.qn_value.specs.Networks.{labels}
use Rattle.qn_value.specs.Blocks.{legs_on}
use Rattle.qn_match.specs.Cost.{cost_of}
use Rattle.qn_net.specs.Groups.{flux_of}
use Rattle.qn_net.specs.Steps.{Step as GroupStep, Kind, result, written, fuses}
use Rattle.qn_net.specs.Steps.Step.{pair, trace}
use Rattle.qn_net.specs.Steps.Kind.{pair_step, trace_step, fuse_step}
use Rattle.qn_net.specs.Passing.{result_legs}
use Rattle.qn_net.specs.NetworkValues.{NetworkValue, parities, sectors, steps}
use Rattle.qn_plan.specs.declared.step.StepKind.{StepKind}
use Rattle.qn_plan.specs.declared.step.StepKind.TheVariants.{Pair, Trace, Fuse}
use Rattle.qn_plan.specs.declared.step.PlanFault.{PlanFault}
use Rattle.qn_plan.specs.declared.step.PlanFault.TheVariants.{StepWide, Memory}
use Rattle.qn_plan.specs.Shapes.{shared_places}

abbrev pub kind_value : StepKind → Kind
kind_value Pair = pair_step
kind_value Trace = trace_step
kind_value Fuse = fuse_step

-- a step of a plan: its kind, the numbers of the groups that it takes, its labels ascending, and its cost; where there is no second group its number is 0
pub record StepValue : Type 0 where
  pub kind : Kind
  pub first : ℕ
  pub second : ℕ
  pub labels : List ℤ
  pub cost : ℕ

-- the cost of a step: of a contraction that of the two shapes; a trace and a step that fuses or splits cost nothing
abbrev pub cost_of_step : NetworkValue → GroupStep → ℕ
cost_of_step net (pair before g between h behind bonds left) =
    if fuses g bonds || fuses h bonds then 0 else
    cost_of net.group (legs_on (sectors net) g.node.ends) (flux_of net.group g) (legs_on (sectors net) h.node.ends) (flux_of net.group h)
    (shared_places g.node.ends h.node.ends (labels bonds))
cost_of_step net (trace before g behind bonds left) = 0

-- the step as the plan gives it
abbrev pub planned_step : NetworkValue → GroupStep → StepValue
planned_step net t = record { kind = (written t).kind; first = (written t).first; second = (written t).second; labels = (written t).labels; cost = cost_of_step net t }

-- the plan of the network
abbrev pub planned : NetworkValue → List StepValue
planned net = map (planned_step net) (steps net)

-- what its steps cost together
abbrev pub cost_of_plan : NetworkValue → ℕ
cost_of_plan net = sum_by (cost_of_step net) (steps net)

-- a shape is past one of the limits: 64 legs, 2^20 tuples of sectors, 2^22 admissible entries
abbrev pub is_too_wide : List Factor → List LegValue → List ℤ → Bool
is_too_wide fs ls q = nat_lt 64 (length ls) || (nat_lt (2 ^ 20) (count ls) || nat_lt (2 ^ 22) (entries fs ls q))

-- the result of the step is too wide
abbrev pub is_wide_step : NetworkValue → GroupStep → Bool
is_wide_step net t = is_too_wide net.group (result_legs (parities net) (sectors net) t) (flux_of net.group (result (parities net) t))

-- the first of these steps, numbered from n, whose result is too wide
abbrev pub first_wide_from : NetworkValue → ℕ → List GroupStep → Option ℕ
first_wide_from net n [] = None
first_wide_from net n (t ∷ ts) = if is_wide_step net t then Some n else first_wide_from net (suc n) ts

-- the first step of the network whose result is too wide; steps are numbered from 1
abbrev pub first_wide : NetworkValue → Option ℕ
first_wide net = first_wide_from net 1 (steps net)

-- why a network has no plan: the first step whose result is too wide, or memory was wanting
abbrev pub IsPlanFault : NetworkValue → PlanFault → Type 0
IsPlanFault net (StepWide step) = first_wide net ≡ Some step
IsPlanFault net Memory = Unit {0}
