use Rattle.std.proofs.Common.{◌<◌, subst}
use Rattle.qn_gauss.specs.Gaussian.{zero_g}
use Rattle.qn_mpo.specs.Rows.{RowValue}
use Rattle.qn_mpo.proofs.Rows.{cell_before}
use Rattle.qn_mpo.proofs.row.Row.entry.Goals as goal

pub returns-then-right-self : goal.returns-then-right-self
unfolding zero_g
returns-then-right-self c = cell_before c.args.size c.args.self.now c.args.right c.args.place (subst (λ (r : RowValue). c.args.right < r.first) c.self.view_is c.if-right-self.true)
