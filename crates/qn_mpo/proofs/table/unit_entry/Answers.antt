use Rattle.std.proofs.Common.{◌/◌, ◌%◌}
use Rattle.qn_gauss.specs.Gaussian.{one_g, zero_g}
use Rattle.qn_mpo.proofs.Tables.{unit_same, unit_other}
use Rattle.qn_mpo.proofs.table.unit_entry.Goals as goal

pub returns-then-place-dim : goal.returns-then-place-dim
unfolding one_g zero_g
returns-then-place-dim c = unit_same (c.args.place / c.args.dim) (c.args.place % c.args.dim) c.if-place-dim.true

pub returns-else-place-dim : goal.returns-else-place-dim
unfolding one_g zero_g
returns-else-place-dim c = unit_other (c.args.place / c.args.dim) (c.args.place % c.args.dim) c.if-place-dim.false
