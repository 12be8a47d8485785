use Rattle.std.proofs.Common.{◌≡◌, map, take}
use Rattle.qn_sites.specs.Sites.{SiteValue}
use Rattle.qn_gen.proofs.links.legs_of.Given as goal

abbrev pub invariant-loop-site : goal.invariant-loop-site
invariant-loop-site l = l.legs.items ≡ map (λ (s : SiteValue). s.leg) (take l.site-index l.sites)
