use Rattle.std.proofs.Common.{length, ◌+◌, ◌*◌, get_or}
use Rattle.qn_gauss.specs.Gaussian.{zero_g, mag}
use Rattle.qn_strides.specs.Strides.{sum_along, total_along}
use Rattle.qn_strides.proofs.Adding.{IsAdded}
use Rattle.qn_strides.proofs.sum.+add_along.Given as goal

abbrev pub decreases-add_along : goal.decreases-add_along
decreases-add_along l = length l.axes.now

abbrev pub invariant-loop-value : goal.invariant-loop-value
invariant-loop-value l =
    IsAdded (λ v. sum_along (λ p. get_or l.entries p zero_g) l.rest (l.start + v * l.axis-inside.stride)) (λ v. total_along (λ p. mag (get_or l.entries p zero_g)) l.rest (l.start + v * l.axis-inside.stride))
    l.minus l.fn.sum l.size l.value l.total l.bound
