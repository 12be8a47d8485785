use Rattle.std.proofs.Common.{◌∙◌, ◌^◌, ap, subst, sym}
use Rattle.qn_charge.specs.Charges.{zero_charge}
use Rattle.qn_charge.specs.Laws.{canonical_zero, within_zero}
use Rattle.qn_index.specs.Tuples.{IsFlux}
use Rattle.qn_mpo.proofs.frame.site_flux.Goals as goal

pub returns-else-j-sites-clause-flux : goal.returns-else-j-sites-clause-flux
returns-else-j-sites-clause-flux g c =
    let group = c.args.sum.now.group in
    subst (IsFlux group) (sym (c.zero.ensures.value ∙ ap zero_charge c.group.ensures)) (record { canonical = canonical_zero group c.known.ensures.sites.group; within = within_zero (2 ^ 50) group })
