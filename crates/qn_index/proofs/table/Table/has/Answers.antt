use Rattle.std.proofs.Common.{arith, ◌∙◌, ◌+◌, ap, sym, drop, cond, List}
use Rattle.qn_index.specs.Weights.{WeightValue, has_charge}
use Rattle.std.proofs.Common.{true, Bool}
use Rattle.std.proofs.lemmas.List.{drop_all}
use Rattle.qn_index.proofs.Counts.{has_more}
use Rattle.qn_index.proofs.table.Table.has.Goals as goal

pub loop-w-preserved : goal.loop-w-preserved
loop-w-preserved g c =
    c.loop-w.invariant ∙ (has_more c.rows-rows.result.now c.args.charge.now c.loop-w.w-index c.w-item.result c.loop-w-test.true c.w-item.is ∙ ap (λ (b : Bool). cond b true (has_charge (drop (c.loop-w.w-index + 1) c.rows-rows.result.now) c.args.charge.now)) (sym c.is_at.ensures ∙ c.if-is_at.false))

pub returns-then-is_at : goal.returns-then-is_at
returns-then-is_at g c =
    sym (ap (λ (ws : List WeightValue). has_charge ws c.args.charge.now) (sym c.rows-rows.ensures) ∙ (c.loop-w.invariant ∙ (has_more c.rows-rows.result.now c.args.charge.now c.loop-w.w-index c.w-item.result c.loop-w-test.true c.w-item.is ∙ ap (λ (b : Bool). cond b true (has_charge (drop (c.loop-w.w-index + 1) c.rows-rows.result.now) c.args.charge.now)) (sym c.is_at.ensures ∙ c.if-is_at.true))))

pub returns : goal.returns
returns g c =
    sym (ap (λ (ws : List WeightValue). has_charge ws c.args.charge.now) (sym c.rows-rows.ensures) ∙ (c.loop-w.invariant ∙ ap (λ (ws : List WeightValue). has_charge ws c.args.charge.now) (drop_all c.loop-w.w-index c.rows-rows.result.now (omega arith))))
