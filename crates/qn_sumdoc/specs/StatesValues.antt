-- Two states on the same sites, where wanted with an operator sum.
use Rattle.std.specs.Prelude.{List, Option}
use Rattle.qn_sites.specs.Sites.{SiteValue}
use Rattle.qn_mps.specs.Chains.{ChainValue}
use Rattle.qn_opsum.specs.Sums.{SumValue}

-- two states on the same sites, where wanted with an operator sum on them
pub record StatesValue : Type 0 where
  pub sites : List SiteValue
  pub sum : Option SumValue
  pub bra : ChainValue
  pub ket : ChainValue
