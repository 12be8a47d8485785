use Rattle.std.proofs.Common.{rules, refl}
use Rattle.qn_kernel.proofs.Layouts.{laid_as, starts_same}
use Rattle.qn_kernel.proofs.source.Source.product.Goals as goal

pub returns : goal.returns
returns c =
    laid_as c.args.self.now _ c.deref.result.now c.deref-4.result.now c.deref-2.result.now c.deref-3.result.now
    (record {
      first_rows = c.in_ok-first.ensures.rows;
      first_cols = c.in_ok-first.ensures.cols;
      first_cells = search rules;
      first_few = c.in_ok-first.ensures.few;
      second_rows = c.in_ok-second.ensures.rows;
      second_cols = c.in_ok-second.ensures.cols;
      second_cells = search rules;
      second_few = c.in_ok-second.ensures.few;
      minus_is = search rules;
    })
    (search rules) (search rules) (search rules) (search rules)
    (starts_same c.deref.result.now c.in_ok-rows.rows.items c.first_kept.result.now c.args.self.now.first_kept c.rows.result c.args.self.now.rows c.cols.result c.args.self.now.cols (search rules) (search rules) (search rules) (search rules) c.in_ok-rows.ensures.places)
    (starts_same c.deref-4.result.now c.in_ok-cols.cols.items c.second_kept.result.now c.args.self.now.second_kept c.cols-2.result c.args.self.now.cols 1 1 (search rules) (search rules) (search rules) refl c.in_ok-cols.ensures.places)
