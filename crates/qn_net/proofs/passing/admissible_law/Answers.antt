use Rattle.std.proofs.Common.{◌∷◌, ◌∙◌}
use Rattle.qn_net.specs.Plans.{plan, first_state}
use Rattle.qn_net.proofs.PlanLemmas.{plan_start}
use Rattle.qn_net.proofs.PassLemmas.{first_same}
use Rattle.qn_net.proofs.PassingLemmas.{admissible_same, start_keep}
use Rattle.qn_net.proofs.passing.admissible_law.Goals as goal

pub returns : goal.returns
returns c par fs sectors m ms bonds opens order group net h keeps cover =
    let w = plan_start par m ms bonds opens order net h cover in
    first_same par opens sectors 1 (plan par order (first_state (m ∷ ms) bonds)) (first_state (m ∷ ms) bonds) w.0
    ∙ admissible_same fs group sectors par opens 1 (plan par order (first_state (m ∷ ms) bonds)) (first_state (m ∷ ms) bonds) w.0
    (start_keep fs group sectors 1 (m ∷ ms) keeps)
