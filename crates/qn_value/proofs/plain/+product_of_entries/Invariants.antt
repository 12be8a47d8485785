use Rattle.std.proofs.Common.{length}
use Rattle.qn_value.proofs.plain.+product_of_entries.Given as goal

abbrev pub decreases-product_of_entries : goal.decreases-product_of_entries
decreases-product_of_entries l = length l.tensors.now
