use Rattle.qn_auto.proofs.LeftProducts
use Rattle.qn_auto.proofs.laws.products_from_the_left.Goals as goal

pub returns : goal.returns
returns c = LeftProducts.left_product_law
