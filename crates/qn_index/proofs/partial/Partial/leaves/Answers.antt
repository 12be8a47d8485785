use Rattle.std.proofs.Common.{◌∙◌, ap, ℤ, List}
use Rattle.qn_index.specs.Weights.{PartialValue}
use Rattle.std.specs.Cmp.Lexicographic.{pointwise}
use Rattle.std.specs.Ordering.{int_eq}
use Rattle.qn_index.proofs.Counts.{test_is}
use Rattle.qn_index.proofs.partial.Partial.leaves.Goals as goal

pub returns : goal.returns
returns g c =
    test_is c.same.result c.args.flux.now c.self.inside.flux c.same.ensures ∙ ap (λ (x : List ℤ). pointwise int_eq c.args.flux.now x) (ap (λ (p : PartialValue). p.flux) c.self.view_is)
