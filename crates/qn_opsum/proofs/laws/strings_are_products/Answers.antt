use Rattle.qn_opsum.proofs.NormalOrder.{ordered_law}
use Rattle.qn_opsum.proofs.StringLaws.{string_law}
use Rattle.qn_opsum.proofs.laws.strings_are_products.Goals as goal

pub returns : goal.returns
returns c = record { any_order = string_law; in_site_order = ordered_law }
