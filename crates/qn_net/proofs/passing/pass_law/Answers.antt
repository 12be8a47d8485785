use Rattle.std.proofs.Common.{◌∷◌}
use Rattle.qn_net.specs.Plans.{plan, first_state}
use Rattle.qn_net.proofs.PlanLemmas.{plan_start}
use Rattle.qn_net.proofs.PassLemmas.{first_same}
use Rattle.qn_net.proofs.passing.pass_law.Goals as goal

pub returns : goal.returns
returns c par m ms bonds opens order sectors net h cover =
    first_same par opens sectors 1 (plan par order (first_state (m ∷ ms) bonds)) (first_state (m ∷ ms) bonds) (plan_start par m ms bonds opens order net h cover).0
