use Rattle.std.proofs.Common.{rules, arith, ◌*◌, ap, map}
use Rattle.std.proofs.lemmas.List.{length-map}
use Rattle.qn_kernel.specs.Matrices.{steps_for}
use Rattle.qn_kernel.proofs.Places.{rows_none, rows_more, rows_within, passing_at, clear_all}
use Rattle.qn_kernel.proofs.product.entries_of.Goals as goal

pub loop-x-init : goal.loop-x-init
loop-x-init g c = record {
  rows_are = rows_none c.args.products.now c.args.cols c.args.steps.now _ c.in_ok-entries.ensures.items;
  width = search rules;
}

pub returns-in-Some-clause-err : goal.returns-in-Some-clause-err
returns-in-Some-clause-err g c = (c.in_ok-copy-in-Some.ensures, passing_at c.args.products.now c.args.rows c.args.cols c.loop-x.x c.in-Some.y c.requires.shape c.loop-x.invariant.rows_are.clear c.loop-x-test.true c.in-Some.ensures.some)

pub returns-in_err-append_sums-clause-steps : goal.returns-in_err-append_sums-clause-steps
returns-in_err-append_sums-clause-steps g c =
    rows_within c.args.products.now c.args.rows c.args.cols c.args.steps.now c.loop-x.x c.loop-x.steps c.sum_up.new.steps c.loop-x.entries.items c.loop-x.invariant.rows_are c.loop-x-test.true
    (omega (arith, c.sum_up.ensures.steps, ap (λ n. steps_for c.args.products.now * n) c.loop-x.invariant.width))

pub loop-x-preserved : goal.loop-x-preserved
loop-x-preserved g c = record {
  rows_are =
      rows_more c.args.products.now c.args.rows c.args.cols c.args.steps.now c.loop-x.x c.loop-x.steps c.sum_up.new.steps (map g.S.Total.total c.sum_up.new.row) c.loop-x.entries.items c.append_sums.new.entries.items c.requires.shape
      c.loop-x.invariant.rows_are (search rules) (search (rules, length-map)) (λ y l. c.sum_up.ensures.sums y (omega (arith, l, c.loop-x.invariant.width))) (search rules)
      (omega (arith, c.sum_up.ensures.steps, ap (λ n. steps_for c.args.products.now * n) c.loop-x.invariant.width));
  width = search rules;
}

pub returns-clause-clear : goal.returns-clause-clear
returns-clause-clear g c =
    clear_all c.args.products.now c.args.rows c.args.cols c.requires.shape (λ i l. c.loop-x.invariant.rows_are.clear i (omega (arith, l)))
