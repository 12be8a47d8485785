use Rattle.std.proofs.Common.{◌≤◌, ◌∙◌, List, length, lit<, arith, ap}
use Rattle.std.proofs.lemmas.Result.{IfOk-weaker}
use Rattle.qn_plan.specs.Planned.{StepValue}
use Rattle.qn_cli.specs.Brakets.{pair_of}
use Rattle.qn_cli.proofs.ExpectNetworks.{expect_told}
use Rattle.qn_cli.proofs.expectations.expect_text.Goals as goal

pub returns-clause-text : goal.returns-clause-text
returns-clause-text g c =
    IfOk-weaker c.planned_text.result _ _
    (λ text p. expect_told (pair_of c.args.bra.now c.args.ket.now) c.args.sum.now c.in_ok-made.made.net text.items c.in_ok-made.ensures.network c.in_ok-made.ensures.buildable c.in_ok-made.ensures.value
    c.in_ok-made.ensures.flux p.0 p.1 p.2) c.planned_text.ensures.text

pub planned_text-requires-after_bounds : goal.planned_text-requires-after_bounds
planned_text-requires-after_bounds g c κs within =
    let net = c.in_ok-made.made.net in
    let is = c.in_ok-made.ensures.network in
    let plan = c.in_ok-made.ensures.plan in
    let told = c.as_slice-plan.ensures.value ∙ plan.steps net is in
    let few : length c.as_slice-plan.result.now ≤ 8448 = omega (arith, ap (λ (ks : List StepValue). length ks) c.as_slice-plan.ensures.value, plan.few) in
    (lit< tt, (c.requires.some, (c.requires.few, (told, (few, plan.narrow net is)))))
