use Rattle.std.proofs.Common.{lit<, length, List, [], ap, ◌∙◌}
use Rattle.std.proofs.lemmas.Result.{IfOk-weaker}
use Rattle.qn_index.specs.Legs.{LegValue}
use Rattle.qn_net.specs.NetworkValues.{steps, value}
use Rattle.qn_plan.specs.Planned.{cost_of_plan}
use Rattle.qn_cli.specs.Operators.{automaton}
use Rattle.qn_cli.specs.Brakets.{pair_of}
use Rattle.qn_cli.proofs.Scalars.{expect_closed}
use Rattle.qn_cli.proofs.Summaries.{told_by, expect_summed}
use Rattle.qn_cli.proofs.generated.expect_summary.Goals as goal

pub network_summary-requires-after_bounds : goal.network_summary-requires-after_bounds
network_summary-requires-after_bounds g c κs within =
    let bra = c.args.bra.now in
    let net = c.in_ok-made.made.net in
    let is = c.in_ok-made.ensures.network in
    let plan = c.in_ok-made.ensures.plan in (
      lit< tt,
      (
        c.requires.some,
        (
          c.requires.few,
          (
            expect_closed bra.group bra.tensors (automaton c.args.sum.now) c.args.ket.now.tensors c.in_ok-made.made.net c.in_ok-made.ensures.network,
            (plan.steps net is, (plan.few, (plan.bounded, plan.narrow net is))),
          ),
        ),
      ),
    )

pub returns-clause-text : goal.returns-clause-text
returns-clause-text g c =
    let net = c.in_ok-made.made.net in
    let b = pair_of c.args.bra.now c.args.ket.now in
    let sites = ap (λ (ls : List LegValue). told_by (length ls) (value net []) (length (steps net)) (cost_of_plan net)) c.sites.ensures in
    IfOk-weaker c.network_summary.result _ _
    (λ text p. expect_summed b c.args.sum.now net text.items c.in_ok-made.ensures.network c.in_ok-made.ensures.buildable c.in_ok-made.ensures.value p.0 p.1 (p.2 ∙ sites))
    c.network_summary.ensures.text
