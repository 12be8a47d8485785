use Rattle.std.proofs.Common.{sym, subst}
use Rattle.qn_kernel.specs.Laid.{AreProductsOf}
use Rattle.qn_kernel.proofs.Layouts.{products_are, told_same}
use Rattle.qn_kernel.proofs.source.first_above.Goals as goal

pub first_passing-requires-clause-products : goal.first_passing-requires-clause-products
first_passing-requires-clause-products c =
    products_are c.args.len c.args.sources.now c.deref.result.now c.requires.sources (subst (AreProductsOf c.args.sources.now) (sym c.deref.ensures.value) c.in_ok-products.ensures)

pub returns : goal.returns
returns c =
    told_same c.args.len c.args.sources.now c.deref.result.now c.requires.sources (subst (AreProductsOf c.args.sources.now) (sym c.deref.ensures.value) c.in_ok-products.ensures) c.first_passing.result c.first_passing.ensures.none c.first_passing.ensures.some
