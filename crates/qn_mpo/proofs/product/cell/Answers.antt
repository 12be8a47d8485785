use Rattle.std.proofs.Common.{rules}
use Rattle.qn_mpo.proofs.Tables.{small_product}
use Rattle.qn_mpo.proofs.product.cell.Goals as goal

pub overflow_mul-row : goal.overflow_mul-row
overflow_mul-row c = let small = small_product c.args.row c.args.dim c.requires.row c.requires.small in search rules

pub overflow_add-row : goal.overflow_add-row
overflow_add-row c = let small = small_product c.args.row c.args.dim c.requires.row c.requires.small in search rules
