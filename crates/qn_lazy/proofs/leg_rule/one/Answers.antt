use Rattle.std.proofs.Common.{refl}
use Rattle.qn_gauss.specs.Gaussian.{one_g}
use Rattle.qn_lazy.proofs.leg_rule.one.Goals as goal

pub returns : goal.returns
unfolding one_g
returns c = refl
