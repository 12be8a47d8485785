use Rattle.std.proofs.Common.{rules, map, length}
use Rattle.qn_kernel.specs.Matrices.{IsProduct}
use Rattle.qn_kernel.proofs.Rows.{summed_room, summed_more}
use Rattle.qn_kernel.proofs.row.sum_up.Goals as goal

pub add_matrices-requires-clause-room : goal.add_matrices-requires-clause-room
add_matrices-requires-clause-room g c =
    let here : IsProduct c.args.rows (length c.args.row.now) c.product-item.result = search rules in
    summed_room c.args.products.now (length c.args.row.now) c.args.x c.args.steps.now c.loop-product.product-index g.S.Total.most c.loop-product.steps (map g.S.Total.total c.loop-product.row) c.product-item.result
    c.loop-product.invariant.summed c.requires.room c.loop-product-test.true c.product-item.is here.cols_are

pub loop-product-preserved : goal.loop-product-preserved
loop-product-preserved g c =
    let here : IsProduct c.args.rows (length c.args.row.now) c.product-item.result = search rules in
    record {
      summed =
          summed_more c.args.products.now (length c.args.row.now) c.args.x c.args.steps.now c.loop-product.product-index c.loop-product.steps c.add_matrices.new.steps (map g.S.Total.total c.loop-product.row) (map g.S.Total.total c.add_matrices.new.row) c.product-item.result
          c.loop-product.invariant.summed c.loop-product-test.true c.product-item.is here.cols_are c.add_matrices.ensures.sums (search rules);
      width = search rules;
    }
