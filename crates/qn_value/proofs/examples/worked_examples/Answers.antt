use Rattle.std.proofs.Common.{refl}
use Rattle.qn_gauss.specs.Gaussian.{zero_g, one_g, add_g, mul_g, neg_g}
use Rattle.qn_value.proofs.examples.worked_examples.Goals as goal

pub returns-clause-trace : goal.returns-clause-trace
unfolding zero_g one_g add_g mul_g neg_g
returns-clause-trace c = refl

pub returns-clause-supertrace : goal.returns-clause-supertrace
unfolding zero_g one_g add_g mul_g neg_g
returns-clause-supertrace c = refl

pub returns-clause-twisted_trace : goal.returns-clause-twisted_trace
unfolding zero_g one_g add_g mul_g neg_g
returns-clause-twisted_trace c = refl

pub returns-clause-twisted_supertrace : goal.returns-clause-twisted_supertrace
unfolding zero_g one_g add_g mul_g neg_g
returns-clause-twisted_supertrace c = refl

pub returns-clause-created_first : goal.returns-clause-created_first
unfolding zero_g one_g add_g mul_g neg_g
returns-clause-created_first c = refl

pub returns-clause-taken_first : goal.returns-clause-taken_first
unfolding zero_g one_g add_g mul_g neg_g
returns-clause-taken_first c = refl

pub returns-clause-created_first_twisted : goal.returns-clause-created_first_twisted
unfolding zero_g one_g add_g mul_g neg_g
returns-clause-created_first_twisted c = refl

pub returns-clause-shared_lines : goal.returns-clause-shared_lines
unfolding zero_g one_g add_g mul_g neg_g
returns-clause-shared_lines c = refl

pub returns-clause-exchanged_lines : goal.returns-clause-exchanged_lines
unfolding zero_g one_g add_g mul_g neg_g
returns-clause-exchanged_lines c = refl

pub returns-clause-odd_between : goal.returns-clause-odd_between
unfolding zero_g one_g add_g mul_g neg_g
returns-clause-odd_between c = refl

pub returns-clause-own_trace : goal.returns-clause-own_trace
unfolding zero_g one_g add_g mul_g neg_g
returns-clause-own_trace c = refl

pub returns-clause-own_pair : goal.returns-clause-own_pair
unfolding zero_g one_g add_g mul_g neg_g
returns-clause-own_pair c = refl

pub returns-clause-own_pair_past_odd : goal.returns-clause-own_pair_past_odd
unfolding zero_g one_g add_g mul_g neg_g
returns-clause-own_pair_past_odd c = refl

pub returns-clause-matrix_product : goal.returns-clause-matrix_product
unfolding zero_g one_g add_g mul_g neg_g
returns-clause-matrix_product c = refl

pub returns-clause-matrix_product_off : goal.returns-clause-matrix_product_off
unfolding zero_g one_g add_g mul_g neg_g
returns-clause-matrix_product_off c = refl

pub returns-clause-magnitudes : goal.returns-clause-magnitudes
unfolding zero_g one_g add_g mul_g neg_g
returns-clause-magnitudes c = refl
