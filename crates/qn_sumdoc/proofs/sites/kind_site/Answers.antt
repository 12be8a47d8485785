use Rattle.std.proofs.Common.{ap, refl, subst}
use Rattle.std.specs.Prelude.{not}
use Rattle.serde_json.specs.View.{view}
use Rattle.qn_sites.specs.Refusals.{IsBuiltinFault, IsKindOf}
use Rattle.qn_sites.specs.declared.fault.SiteFault.TheVariants.{SiteKind}
use Rattle.qn_parts.specs.Faults.{fault, fault_if}
use Rattle.qn_sumdoc.specs.Sites.{kind_name}
use Rattle.qn_sumdoc.proofs.KindNames.{kind_accepted, kind_means, kind_refused}
use Rattle.qn_sumdoc.proofs.sites.kind_site.Goals as goal

pub returns-in-Ok : goal.returns-in-Ok
returns-in-Ok g c =
    let fs = c.args.group.now in
    let name = kind_name (view c.args.v.now) in
    let found = c.in-Ok.ensures.ok in
    let is = subst (λ n. IsKindOf n fs found.0) c.text_at.ensures found.1 in (
      ap (λ b. fault_if (not b) (fault 28 c.args.site 0 0)) (kind_accepted name fs found.0 is),
      (kind_means name fs found.0 c.in-Ok.table is found.2, c.in-Ok.ensures.group),
    )

pub returns-in-Err-SiteKind : goal.returns-in-Err-SiteKind
returns-in-Err-SiteKind g c =
    let fs = c.args.group.now in
    let name = kind_name (view c.args.v.now) in
    let wrong : IsBuiltinFault c.text_at.result.now fs SiteKind = subst (IsBuiltinFault c.text_at.result.now fs) c.in-Err-SiteKind.field-0-is c.in-Err-SiteKind.ensures.err in
    let none : IsBuiltinFault name fs SiteKind = subst (λ n. IsBuiltinFault n fs SiteKind) c.text_at.ensures wrong in
    rw (kind_refused name fs none, c.at.ensures) refl
