use Rattle.std.proofs.Common.{◌∙◌, ap, ℤ, List}
use Rattle.qn_index.specs.Weights.{WeightValue}
use Rattle.std.specs.Cmp.Lexicographic.{pointwise}
use Rattle.std.specs.Ordering.{int_eq}
use Rattle.qn_index.proofs.Counts.{test_is}
use Rattle.qn_index.proofs.table.Weight.is_at.Goals as goal

pub returns : goal.returns
returns g c =
    test_is c.same.result c.self.inside.charge c.args.charge.now c.same.ensures ∙ ap (λ (x : List ℤ). pointwise int_eq x c.args.charge.now) (ap (λ (w : WeightValue). w.charge) c.self.view_is)
