use Rattle.std.proofs.Common.{◌≡◌, length, int_eq}
use Rattle.qn_sign.specs.Sign.{is_in}
use Rattle.qn_plan.proofs.ends.is_listed.Given as goal

abbrev pub invariant-loop-rest : goal.invariant-loop-rest
invariant-loop-rest l = is_in int_eq l.label l.labels ≡ is_in int_eq l.label l.rest

abbrev pub decreases-loop-rest : goal.decreases-loop-rest
decreases-loop-rest l = length l.rest
