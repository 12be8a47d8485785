use Rattle.std.proofs.Common.{refl}
use Rattle.qn_gauss.specs.Gaussian.{zero_g, one_g, add_g, mul_g, neg_g}
use Rattle.qn_net.proofs.examples.worked_examples.Goals as goal

pub returns-clause-two_value : goal.returns-clause-two_value
unfolding zero_g one_g add_g mul_g neg_g
returns-clause-two_value c = refl

pub returns-clause-two_left : goal.returns-clause-two_left
unfolding zero_g one_g add_g mul_g neg_g
returns-clause-two_left c = refl

pub returns-clause-between_left : goal.returns-clause-between_left
unfolding zero_g one_g add_g mul_g neg_g
returns-clause-between_left c = refl

pub returns-clause-twice_left : goal.returns-clause-twice_left
unfolding zero_g one_g add_g mul_g neg_g
returns-clause-twice_left c = refl

pub returns-clause-trace_left : goal.returns-clause-trace_left
unfolding zero_g one_g add_g mul_g neg_g
returns-clause-trace_left c = refl

pub returns-clause-ring_value : goal.returns-clause-ring_value
unfolding zero_g one_g add_g mul_g neg_g
returns-clause-ring_value c = refl

pub returns-clause-ring_left : goal.returns-clause-ring_left
unfolding zero_g one_g add_g mul_g neg_g
returns-clause-ring_left c = refl

pub returns-clause-fuse_left : goal.returns-clause-fuse_left
unfolding zero_g one_g add_g mul_g neg_g
returns-clause-fuse_left c = refl

pub returns-clause-passes : goal.returns-clause-passes
unfolding zero_g one_g add_g mul_g neg_g
returns-clause-passes c = refl

pub returns-clause-stays : goal.returns-clause-stays
unfolding zero_g one_g add_g mul_g neg_g
returns-clause-stays c = refl
