-- The line that sums up an expectation.
use Rattle.std.proofs.Common.{◌≡◌, ℕ, ◌+◌, List, [], ◌∷◌, length, map, suc, None, refl, sym, ap, ap₂, subst, ◌∙◌, sum_by}
use Rattle.std.proofs.lemmas.List.Sums.{sum_by-cons}
use Rattle.qn_gauss.specs.Gaussian.{Gaussian}
use Rattle.qn_index.specs.Legs.{LegValue}
use Rattle.qn_index.specs.Places.{IsValues}
use Rattle.qn_value.specs.Tensors.{entry_of}
use Rattle.qn_value.specs.Blocks.{legs_on}
use Rattle.qn_block.specs.Blocked.{BlockedValue, tensor_of}
use Rattle.qn_net.specs.Steps.{Step}
use Rattle.qn_net.specs.NetworkValues.{NetworkValue, opens, passing_place, sectors, steps, value}
use Rattle.qn_plan.specs.Planned.{StepValue, planned_step, planned, cost_of_step, cost_of_plan, first_wide}
use Rattle.qn_opsum.specs.Sums.{SumValue}
use Rattle.qn_engine.specs.Evaluated.{IsValueOf}
use Rattle.qn_mps.specs.SameNetworks.{IsSameNetwork}
use Rattle.qn_texts.specs.SummaryTexts.{summary_text}
use Rattle.qn_cli.specs.declared.status.Status.{Status}
use Rattle.qn_cli.specs.declared.status.Status.TheVariants.{Done, Usage, Malformed, Passed, ReadFault, WriteFault, Memory}
use Rattle.qn_cli.specs.Answers.{IsPlanRefusal, IsValueRefusal}
use Rattle.qn_cli.specs.Operators.{IsBuildable}
use Rattle.qn_cli.specs.Brakets.{BraketValue, IsExpectOf, IsExpectText, expectation_of}
use Rattle.qn_cli.specs.Generated.{text_for}
use Rattle.qn_cli.proofs.SameSteps.{same_cost}

-- the summary by what it tells
abbrev pub told_by : ℕ → Gaussian → ℕ → ℕ → List ℕ
told_by n z k c = summary_text (record { sites = n; scalar = z; steps = k; cost = c })

-- two networks of one expectation have one summary
pub same_summary : (b : BraketValue) (v : SumValue) (m n : NetworkValue) → IsSameNetwork m n → text_for b v m ≡ text_for b v n
same_summary b v m n s =
    ap₂ (λ (k c : ℕ). told_by (length b.sites) (expectation_of b v) k c) (ap (λ (ts : List Step). length ts) s.steps) (same_cost m n s)

-- the steps of a plan are those of the network, and their costs are together that of the plan

planned_long : (net : NetworkValue) (ts : List Step) → length (map (planned_step net) ts) ≡ length ts
planned_long net [] = refl
planned_long net (t ∷ ts) = ap suc (planned_long net ts)

planned_costs : (net : NetworkValue) (ts : List Step) → sum_by (λ (s : StepValue). s.cost) (map (planned_step net) ts) ≡ sum_by (cost_of_step net) ts
planned_costs net [] = refl
planned_costs net (t ∷ ts) =
    sum_by-cons (λ (s : StepValue). s.cost) (planned_step net t) (map (planned_step net) ts)
    ∙ (ap (λ (n : ℕ). cost_of_step net t + n) (planned_costs net ts) ∙ sym (sum_by-cons (cost_of_step net) t ts))

-- a tensor without legs has one place
pub no_values : (net : NetworkValue) (t : BlockedValue) → opens net ≡ [] → IsValueOf net t → IsValues t.legs []
no_values net t closed is = subst (λ (ls : List LegValue). IsValues ls []) (sym (is.legs ∙ ap (legs_on (sectors net)) closed)) refl

-- the summary of what was found is that of the network: its value, the number of its steps and their cost
pub summary_told : (net : NetworkValue) (t : BlockedValue) (list : List StepValue) (n : ℕ) (z : Gaussian) (text : List ℕ) → opens net ≡ [] → IsValueOf net t → list ≡ planned net
    → z ≡ entry_of (tensor_of t) [] → text ≡ told_by n z (length list) (sum_by (λ (s : StepValue). s.cost) list)
    → text ≡ told_by n (value net []) (length (steps net)) (cost_of_plan net)
summary_told net t list n z text closed value_is is found told =
    told
    ∙ (ap (λ (x : Gaussian). told_by n x (length list) (sum_by (λ (s : StepValue). s.cost) list)) (found ∙ value_is.entries [] (no_values net t closed value_is))
    ∙ ap₂ (λ (k c : ℕ). told_by n (value net []) k c) (ap (λ (ts : List StepValue). length ts) is ∙ planned_long net (steps net))
    (ap (sum_by (λ (s : StepValue). s.cost)) is ∙ planned_costs net (steps net)))

-- the summary of the network is that of the expectation
pub expect_summed : (b : BraketValue) (v : SumValue) (net : NetworkValue) (text : List ℕ) → IsExpectOf b v net → IsBuildable v → value net [] ≡ expectation_of b v
    → first_wide net ≡ None → passing_place net ≡ None → text ≡ told_by (length b.sites) (value net []) (length (steps net)) (cost_of_plan net)
    → IsExpectText text_for text b v
expect_summed b v net text is built number narrow clear told = (
  net,
  record { sites = built.narrow; network = is; steps = narrow },
  built.clear,
  clear,
  told ∙ ap (λ (z : Gaussian). told_by (length b.sites) z (length (steps net)) (cost_of_plan net)) number,
)

-- where there is no plan, there is no value
pub plan_refused : (net : NetworkValue) (s : Status) → IsPlanRefusal net s → IsValueRefusal net s
plan_refused net Done p = p
plan_refused net (Usage word) p = p
plan_refused net (Malformed f) p = p
plan_refused net (Passed step at offset) p = absurd p
plan_refused net ReadFault p = p
plan_refused net WriteFault p = p
plan_refused net Memory p = p
