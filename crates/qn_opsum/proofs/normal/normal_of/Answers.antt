use Rattle.std.proofs.Common.{◌≡◌, ◌∙◌, ap, map, subst, sym}
use Rattle.qn_sign.specs.Sign.{is_odd}
use Rattle.qn_gauss.specs.Gaussian.{signed}
use Rattle.qn_opsum.specs.Strings.{inversions}
use Rattle.qn_opsum.specs.Sums.{IsSiteOrder, factor_of, sites_of, string_of, turns}
use Rattle.qn_opsum.proofs.SiteOrder.{good_positive, sorted_string, turns_is}
use Rattle.qn_opsum.proofs.normal.normal_of.Goals as goal

pub returns-clause-sign : goal.returns-clause-sign
returns-clause-sign g c =
    c.turns-negative.ensures
    ∙ (ap turns (c.deref.ensures.value ∙ c.in_ok-marks.ensures)
    ∙ turns_is c.args.group.now c.args.sites.now c.args.factors.now (good_positive c.args.sites.now c.args.factors.now c.requires.good))

pub returns-clause-string : goal.returns-clause-string
returns-clause-string g c = λ t s.
    let fs = c.args.group.now in
    let ss = c.args.sites.now in
    let order = subst (λ xs. IsSiteOrder xs c.sort_by_site.new.factors.items) c.in_ok-sorted.ensures c.in_ok-sort_by_site.ensures in
    let sign : c.turns-negative.result ≡ is_odd (inversions (sites_of c.args.group.now c.args.sites.now) (map (factor_of c.args.sites.now) c.args.factors.now)) =
    c.turns-negative.ensures
    ∙ (ap turns (c.deref.ensures.value ∙ c.in_ok-marks.ensures)
    ∙ turns_is c.args.group.now c.args.sites.now c.args.factors.now (good_positive c.args.sites.now c.args.factors.now c.requires.good)) in
    sorted_string c.args.group.now c.args.sites.now c.args.factors.now c.sort_by_site.new.factors.items c.requires.sites c.requires.good order t s
    ∙ ap (λ b. signed b (string_of c.args.group.now c.args.sites.now c.sort_by_site.new.factors.items t s)) (sym sign)
