use Rattle.std.proofs.Common.{take}
use Rattle.qn_kernel.specs.Laid.{AreProductsOf}
use Rattle.qn_kernel.proofs.source.products_of.Given as goal

abbrev pub invariant-loop-source : goal.invariant-loop-source
invariant-loop-source l = AreProductsOf (take l.source-index l.sources) l.products.items
