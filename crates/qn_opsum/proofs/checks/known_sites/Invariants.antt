use Rattle.std.proofs.Common.{ℕ, ◌<◌, get_or}
use Rattle.qn_sites.specs.Sites.{IsSite, SiteValue}
use Rattle.qn_opsum.proofs.checks.known_sites.Given as goal

abbrev pub invariant-loop-site : goal.invariant-loop-site
invariant-loop-site g l = (k : ℕ) (d : SiteValue) → k < l.site-index → IsSite (get_or l.sites k d)
