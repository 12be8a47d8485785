use Rattle.std.proofs.Common.{refl}
use Rattle.qn_gauss.specs.Gaussian.{zero_g}
use Rattle.qn_lazy.proofs.leg_rule.zero.Goals as goal

pub returns : goal.returns
unfolding zero_g
returns c = refl
