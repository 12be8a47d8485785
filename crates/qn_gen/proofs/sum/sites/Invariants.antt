use Rattle.std.proofs.Common.{◌≡◌}
use Rattle.qn_gen.specs.Workload.{sites}
use Rattle.qn_gen.proofs.sum.sites.Given as goal

abbrev pub invariant-loop : goal.invariant-loop
invariant-loop l = l.sites.items ≡ sites l.counter
