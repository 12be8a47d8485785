use Rattle.std.proofs.Common.{◌∙◌}
use Rattle.qn_gauss.specs.Gaussian.{zero_g}
use Rattle.qn_kernel.proofs.Places.{none_summed}
use Rattle.qn_kernel.proofs.product.zeros.Goals as goal

pub returns-clause-entries : goal.returns-clause-entries
unfolding zero_g
returns-clause-entries c = c.in_ok-vec.ensures.items_if_clones_equal (λ y e. e) ∙ none_summed c.args.len
