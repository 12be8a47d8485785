use Rattle.std.proofs.Common.{◌≡◌, take}
use Rattle.qn_sumdoc.proofs.states.copy_sites.Given as goal

abbrev pub invariant-loop-site : goal.invariant-loop-site
invariant-loop-site g l = l.copies.items ≡ take l.site-index l.sites
