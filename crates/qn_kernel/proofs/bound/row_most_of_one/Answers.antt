use Rattle.std.proofs.Common.{rules, ◌≤◌, ◌+◌, ◌*◌}
use Rattle.qn_gauss.specs.Gaussian.{mag, limit}
use Rattle.qn_value.specs.Magnitudes.{total_below}
use Rattle.qn_kernel.specs.Matrices.{number_at}
use Rattle.qn_kernel.specs.Cells.{AreWithin}
use Rattle.qn_kernel.proofs.Bounds.{row_most}
use Rattle.qn_kernel.proofs.bound.row_most_of_one.Goals as goal

pub returns : goal.returns
returns c h y =
    let s = c.args.product.now in
    let one : c.row_sum.result ≤ limit → total_below s.first.cols (λ z. mag (number_at s.first.cells (c.args.x * s.first.cols + z))) ≤ c.row_sum.result = search rules in
    let two : AreWithin c.greatest.result s.second.cells = search rules in
    row_most s.first.cells s.second.cells s.first.cols s.second.cols c.args.x y c.row_sum.result c.greatest.result c.saturating_mul.result one two c.saturating_mul.ensures h
