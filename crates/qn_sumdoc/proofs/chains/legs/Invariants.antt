use Rattle.std.proofs.Common.{◌≡◌, take}
use Rattle.std.specs.List.{All}
use Rattle.qn_index.specs.declared.leg.Dir.TheVariants.{Out}
use Rattle.qn_index.specs.Legs.{LegValue}
use Rattle.qn_sumdoc.specs.Chains.{site_legs}
use Rattle.qn_sumdoc.proofs.chains.legs.Given as goal

abbrev pub invariant-loop-site : goal.invariant-loop-site
invariant-loop-site g l = record {
  are : l.legs.items ≡ site_legs (take l.site-index l.sites);
  out : All (λ (leg : LegValue). leg.arrow ≡ Out) l.legs.items;
}
