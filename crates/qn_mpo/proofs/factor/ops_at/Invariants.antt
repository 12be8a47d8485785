use Rattle.std.proofs.Common.{◌≡◌, take}
use Rattle.qn_auto.specs.Flux.{ops_at}
use Rattle.qn_mpo.proofs.factor.ops_at.Given as goal

abbrev pub invariant-loop-factor : goal.invariant-loop-factor
invariant-loop-factor l = l.out.items ≡ ops_at l.j (take l.factor-index l.factors)
