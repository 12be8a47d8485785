use Rattle.std.proofs.Common.{◌≡◌, ◌∙◌, ◌<◌, ◌-◌, arith, length, sym, subst}
use Rattle.std.proofs.lemmas.List.{get_or_default}
use Rattle.qn_sites.specs.Sites.{AreAscending, SiteValue, names}
use Rattle.qn_opsum.specs.Sums.{no_site, op_at, place_of, site_at}
use Rattle.qn_opsum.proofs.Lookups.{found_is}
use Rattle.qn_opsum.proofs.checks.operator.Goals as goal

pub returns : goal.returns
returns g c =
    let ss = c.args.sites.now in
    let j = c.args.factor.now.0 - 1 in
    let n = c.args.factor.now.1 in
    let lt : c.args.factor.now.0 - 1 < length c.args.sites.now = omega (arith, c.requires.some, c.requires.within) in
    let same : c.index-sites-site.result ≡ site_at c.args.sites.now (c.args.factor.now.0 - 1) =
    c.index-sites-site.is ∙ get_or_default c.args.sites.now (c.args.factor.now.0 - 1) c.index-sites-site.result no_site lt in
    let rise = subst (λ (s : SiteValue). AreAscending (names s.ops)) (sym same) (c.requires.sites (c.args.factor.now.0 - 1) no_site lt).ascending in
    let found = found_is c.index-sites-site.result.ops c.in-Some.i c.args.factor.now.1 c.index-ops-i.result rise c.in-Some.ensures.0 c.in-Some.ensures.1 (rw c.ops.ensures at c.index-ops-i.is) in
    let both = subst (λ (s : SiteValue). (c.index-ops-i.result ≡ op_at s.ops (place_of s.ops c.args.factor.now.1)) × (place_of s.ops c.args.factor.now.1 < length s.ops)) same found in
    record { value = both.0; place = both.1 }
