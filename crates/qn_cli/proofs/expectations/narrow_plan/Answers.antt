use Rattle.qn_cli.specs.Brakets.{pair_of}
use Rattle.qn_cli.proofs.ExpectNetworks.{narrow_expect, expect_plan}
use Rattle.qn_cli.proofs.expectations.narrow_plan.Goals as goal

pub returns-in-Ok-plan_steps-clause-ok : goal.returns-in-Ok-plan_steps-clause-ok
returns-in-Ok-plan_steps-clause-ok g c =
    narrow_expect (pair_of c.args.bra.now c.args.ket.now) c.args.sum.now c.in-Ok.frame c.in-Ok-expect_net.net c.in-Ok.ensures.ok c.in-Ok-expect_net.ensures.network c.in-Ok.ensures.narrow
    c.in-Ok-plan_steps.ensures.narrow

pub returns-in-Ok-plan_steps-clause-plan : goal.returns-in-Ok-plan_steps-clause-plan
returns-in-Ok-plan_steps-clause-plan g c =
    let told = c.in-Ok-plan_steps.ensures in
    expect_plan c.same_expect_law.ensures (pair_of c.args.bra.now c.args.ket.now) c.args.sum.now c.in-Ok.frame c.in-Ok-expect_net.net c.in-Ok-plan_steps.plan.items c.in-Ok.ensures.ok c.in-Ok-expect_net.ensures.network
    told.steps told.few told.bounded told.narrow
