use Rattle.std.proofs.lemmas.Result.{IfOk-weaker}
use Rattle.qn_cli.proofs.Workloads.{summary_of_seed}
use Rattle.qn_cli.proofs.generated.summary_of.Goals as goal

pub returns-clause-text : goal.returns-clause-text
returns-clause-text g c =
    let w = c.in-Ok.workload in
    IfOk-weaker c.expect_summary.result _ _
    (λ text p bytes. summary_of_seed c.args.seed c.args.workers bytes text.items w.bra w.ket w.sum c.in-Ok.ensures.bra c.in-Ok.ensures.ket c.in-Ok.ensures.sum p) c.expect_summary.ensures.text
