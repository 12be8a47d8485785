use Rattle.std.proofs.Common.{arith, ◌≡◌, ◌∙◌, ◌^◌, ap, cond, List}
use Rattle.qn_index.specs.Weights.{WeightValue, weight}
use Rattle.std.proofs.lemmas.List.{drop_all}
use Rattle.std.specs.Cmp.Lexicographic.{pointwise}
use Rattle.std.specs.Ordering.{int_eq}
use Rattle.qn_index.specs.Extents.{capped}
use Rattle.qn_index.proofs.Counts.{weight_more}
use Rattle.qn_index.proofs.table.Table.count_at.Goals as goal

pub loop-w-preserved : goal.loop-w-preserved
loop-w-preserved g c =
    let m = weight_more c.rows-rows.result.now c.args.charge.now c.loop-w.w-index c.w-item.result c.loop-w-test.true c.w-item.is in
    let k : c.count_at.result ≡ cond (pointwise int_eq c.w-item.result.charge c.args.charge.now) c.w-item.result.count 0 = c.count_at.ensures in
    record {
      sum = omega (arith, m, k, c.sum_of-sum.ensures, c.loop-w.invariant.sum);
      small = omega (arith, c.sum_of-sum.ensures);
    }

pub returns : goal.returns
returns g c =
    let none = ap (λ (ws : List WeightValue). weight ws c.args.charge.now) (drop_all c.loop-w.w-index c.rows-rows.result.now (omega arith)) in
    let all : c.loop-w.sum ≡ capped (2 ^ 22) (weight c.rows-rows.result.now c.args.charge.now) = omega (arith, none, c.loop-w.invariant.sum, c.loop-w.invariant.small) in
    all ∙ ap (λ (ws : List WeightValue). capped (2 ^ 22) (weight ws c.args.charge.now)) c.rows-rows.ensures
