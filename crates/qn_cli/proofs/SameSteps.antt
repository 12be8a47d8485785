-- Networks that differ at most in how the rows of their tensors are listed are too wide at the same step, and have the same plan.
use Rattle.std.proofs.Common.{◌≡◌, ℕ, suc, ◌+◌, ◌||◌, List, [], ◌∷◌, map, Option, Some, None, if◌then◌else◌, refl, sym, ap, ap₂, ◌∙◌, sum_by}
use Rattle.std.proofs.lemmas.List.Sums.{sum_by-cons}
use Rattle.qn_charge.specs.declared.factor.Factor.{Factor}
use Rattle.qn_value.specs.Networks.{labels}
use Rattle.qn_value.specs.Blocks.{legs_on}
use Rattle.qn_value.specs.Labels.{Slot, sectors_on, parity_of}
use Rattle.qn_match.specs.Cost.{cost_of}
use Rattle.qn_net.specs.Groups.{flux_of}
use Rattle.qn_net.specs.Steps.{Step, result, fuses, written}
use Rattle.qn_net.specs.Steps.Step.{pair, trace}
use Rattle.qn_net.specs.Passing.{result_legs}
use Rattle.qn_net.specs.NetworkValues.{NetworkValue, legs_of, steps}
use Rattle.qn_plan.specs.Shapes.{shared_places}
use Rattle.qn_plan.specs.Planned.{StepValue, is_too_wide, is_wide_step, first_wide_from, first_wide, cost_of_step, cost_of_plan, planned_step, planned}
use Rattle.qn_mps.specs.SameNetworks.{IsSameNetwork}

-- the first wide step and the cost, from what they depend on: the group, the legs with their labels, the steps

abbrev wide_by : List Factor → List Slot → ℕ → List Step → Option ℕ
wide_by fs ss n [] = None
wide_by fs ss n (t ∷ ts) =
    if is_too_wide fs (result_legs (parity_of fs ss) (sectors_on ss) t) (flux_of fs (result (parity_of fs ss) t)) then Some n else wide_by fs ss (suc n) ts

abbrev pub cost_by : List Factor → List Slot → Step → ℕ
cost_by fs ss (pair before g between h behind bonds left) =
    if fuses g bonds || fuses h bonds then 0 else
    cost_of fs (legs_on (sectors_on ss) g.node.ends) (flux_of fs g) (legs_on (sectors_on ss) h.node.ends) (flux_of fs h) (shared_places g.node.ends h.node.ends (labels bonds))
cost_by fs ss (trace before g behind bonds left) = 0

wide_is : (net : NetworkValue) (n : ℕ) (ts : List Step) → first_wide_from net n ts ≡ wide_by net.group (legs_of net) n ts
wide_is net n [] = refl
wide_is net n (t ∷ ts) = ap (λ (o : Option ℕ). if is_wide_step net t then Some n else o) (wide_is net (suc n) ts)

cost_is : (net : NetworkValue) (t : Step) → cost_of_step net t ≡ cost_by net.group (legs_of net) t
cost_is net (pair before g between h behind bonds left) = refl
cost_is net (trace before g behind bonds left) = refl

abbrev pub planned_by : List Factor → List Slot → Step → StepValue
planned_by fs ss t = record { kind = (written t).kind; first = (written t).first; second = (written t).second; labels = (written t).labels; cost = cost_by fs ss t }

abbrev with_cost : Step → ℕ → StepValue
with_cost t n = record { kind = (written t).kind; first = (written t).first; second = (written t).second; labels = (written t).labels; cost = n }

pub plan_is : (net : NetworkValue) (ts : List Step) → map (planned_step net) ts ≡ map (planned_by net.group (legs_of net)) ts
plan_is net [] = refl
plan_is net (t ∷ ts) = ap₂ (λ (n : ℕ) (ks : List StepValue). with_cost t n ∷ ks) (cost_is net t) (plan_is net ts)

costs_are : (net : NetworkValue) (ts : List Step) → sum_by (cost_of_step net) ts ≡ sum_by (cost_by net.group (legs_of net)) ts
costs_are net [] = refl
costs_are net (t ∷ ts) =
    sum_by-cons (cost_of_step net) t ts ∙ (ap₂ (λ (x y : ℕ). x + y) (cost_is net t) (costs_are net ts) ∙ sym (sum_by-cons (cost_by net.group (legs_of net)) t ts))

pub same_width : (m n : NetworkValue) → IsSameNetwork m n → first_wide m ≡ first_wide n
same_width m n s = wide_is m 1 (steps m) ∙ ((λ i. wide_by (s.group i) (s.legs i) 1 (s.steps i)) ∙ sym (wide_is n 1 (steps n)))

pub same_cost : (m n : NetworkValue) → IsSameNetwork m n → cost_of_plan m ≡ cost_of_plan n
same_cost m n s = costs_are m (steps m) ∙ ((λ i. sum_by (cost_by (s.group i) (s.legs i)) (s.steps i)) ∙ sym (costs_are n (steps n)))

pub same_plan : (m n : NetworkValue) → IsSameNetwork m n → planned m ≡ planned n
same_plan m n s = plan_is m (steps m) ∙ ((λ i. map (planned_by (s.group i) (s.legs i)) (s.steps i)) ∙ sym (plan_is n (steps n)))
