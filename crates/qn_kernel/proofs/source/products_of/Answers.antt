use Rattle.std.proofs.Common.{rules, ◌+◌, subst, sym, take}
use Rattle.qn_kernel.specs.Laid.{AreProductsOf}
use Rattle.qn_kernel.proofs.Layouts.{products_more, products_all, source_at}
use Rattle.qn_kernel.proofs.source.products_of.Goals as goal

pub product-requires-clause-source : goal.product-requires-clause-source
product-requires-clause-source c = (source_at c.args.len c.args.sources.now c.loop-source.source-index c.source-item.result c.requires.sources c.requires.small c.loop-source-test.true c.source-item.is).0

pub product-requires-clause-small : goal.product-requires-clause-small
product-requires-clause-small c = (source_at c.args.len c.args.sources.now c.loop-source.source-index c.source-item.result c.requires.sources c.requires.small c.loop-source-test.true c.source-item.is).1

pub returns : goal.returns
returns c = products_all c.args.sources.now c.loop-source.source-index c.loop-source.products.items (search rules) c.loop-source.invariant

pub loop-source-preserved : goal.loop-source-preserved
loop-source-preserved c =
    subst (AreProductsOf (take (c.loop-source.source-index + 1) c.args.sources.now)) (sym c.in_ok-push.ensures.items)
    (products_more c.args.sources.now c.loop-source.source-index c.source-item.result c.loop-source.products.items c.in_ok-product.field-0 c.loop-source-test.true c.source-item.is c.loop-source.invariant c.in_ok-product.ensures)
