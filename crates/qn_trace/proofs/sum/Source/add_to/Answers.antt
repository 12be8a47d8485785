use Rattle.std.proofs.Common.{◌≡◌, ◌+◌, ◌<◌, ◌↔◌, IfSome, IsNone, subst}
use Rattle.qn_gauss.specs.Gaussian.{add_g, limit}
use Rattle.qn_trace.proofs.Terms.{term_path, size_path}
use Rattle.qn_trace.proofs.sum.Source.add_to.Goals as goal

pub returns-clause-value : goal.returns-clause-value
returns-clause-value c =
    subst (λ w. IfSome c.add_along.result (λ z. z.0 ≡ add_g c.args.sum w))
    (term_path c.args.self.now c.args.place c.entries-entries.result.now c.summed-summed.result.now c.is_minus.result c.kept-kept.result.now c.start_of-start.result
    c.entries-entries.ensures c.summed-summed.ensures c.is_minus.ensures c.kept-kept.ensures c.start_of-start.ensures.value)
    c.add_along.ensures.value

pub returns-clause-size : goal.returns-clause-size
returns-clause-size c =
    subst (λ w. IfSome c.add_along.result (λ z. z.1 ≡ c.args.size + w))
    (size_path c.args.self.now c.args.place c.entries-entries.result.now c.summed-summed.result.now c.kept-kept.result.now c.start_of-start.result
    c.entries-entries.ensures c.summed-summed.ensures c.kept-kept.ensures c.start_of-start.ensures.value)
    c.add_along.ensures.size

pub returns-clause-none : goal.returns-clause-none
returns-clause-none c =
    subst (λ w. IsNone c.add_along.result ↔ (limit < c.args.size + w))
    (size_path c.args.self.now c.args.place c.entries-entries.result.now c.summed-summed.result.now c.kept-kept.result.now c.start_of-start.result
    c.entries-entries.ensures c.summed-summed.ensures c.kept-kept.ensures c.start_of-start.ensures.value)
    c.add_along.ensures.none
