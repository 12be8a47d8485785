use Rattle.std.proofs.Common.{◌≡◌}
use Rattle.qn_tables.proofs.correlators.expect_all_replaced.Given as goal

abbrev pub invariant-loop-site : goal.invariant-loop-site
invariant-loop-site g l = l.corr.bra.group ≡ l.workload.bra.group

abbrev pub invariant-loop-site-2 : goal.invariant-loop-site-2
invariant-loop-site-2 g l = l.corr.bra.group ≡ l.workload.ket.group
