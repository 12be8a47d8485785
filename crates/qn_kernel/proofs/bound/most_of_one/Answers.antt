use Rattle.std.proofs.Common.{rules, ◌≡◌, ◌^◌, ◌-◌, ◌*◌, min}
use Rattle.qn_kernel.specs.Cells.{AreWithin}
use Rattle.qn_kernel.proofs.Bounds.{one_most}
use Rattle.qn_kernel.proofs.bound.most_of_one.Goals as goal

pub returns : goal.returns
returns c h x y =
    let s = c.args.product.now in
    let one : AreWithin c.greatest-first.result s.first.cells = search rules in
    let two : AreWithin c.greatest-second.result s.second.cells = search rules in
    let inner : c.cols-inner.result ≡ s.first.cols = search rules in
    let last : c.saturating_mul-2.result ≡ min (c.saturating_mul.result * s.first.cols) (2 ^ 128 - 1) = search rules in
    one_most s.first.cells s.second.cells s.first.cols s.second.cols x y c.greatest-first.result c.greatest-second.result c.saturating_mul.result c.saturating_mul-2.result one two c.saturating_mul.ensures last h
