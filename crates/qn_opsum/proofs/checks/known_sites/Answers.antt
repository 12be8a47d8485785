use Rattle.std.proofs.Common.{◌∙◌, get_or, subst}
use Rattle.std.proofs.lemmas.List.{get_or_default}
use Rattle.qn_sites.specs.Sites.{IsSite, SiteValue}
use Rattle.qn_opsum.proofs.checks.known_sites.Goals as goal
use Rattle.qn_facts.proofs.Numbers.{one_more}

pub loop-site-preserved : goal.loop-site-preserved
loop-site-preserved g c = λ k d lt.
    one_more (λ j. (e : SiteValue) → IsSite (get_or c.args.sites.now j e)) c.loop-site.site-index (λ j l e. c.loop-site.invariant j e l)
    (λ e. subst IsSite (c.site-item.is ∙ get_or_default c.args.sites.now c.loop-site.site-index c.site-item.result e c.loop-site-test.true) c.known-in-loop-site.ensures)
    k lt d
