use Rattle.std.proofs.Common.{sym, ◌∙◌, ap}
use Rattle.qn_value.specs.Networks.{flat, at_values}
use Rattle.qn_net.proofs.PlanLemmas.{plan_start, first_nodes}
use Rattle.qn_net.proofs.plans.plan_law.Goals as goal

pub returns : goal.returns
returns c par m ms bonds opens order net h cover =
    let w = plan_start par m ms bonds opens order net h cover in
    (w.0, (w.1.0, w.1.1, (λ xs. ap (λ ns. flat par ns bonds opens (at_values opens xs)) (sym (first_nodes m ms)) ∙ w.1.2 (at_values opens xs))))
