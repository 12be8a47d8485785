use Rattle.std.proofs.Common.{lit<, ◌≡◌, ◌≤◌, ◌∙◌, length, map, ap, sym, subst, arith}
use Rattle.std.proofs.lemmas.List.{length-map}
use Rattle.qn_sites.specs.Sites.{AreAscending, names, op_on}
use Rattle.qn_sites.proofs.Made.{names_given, site_is}
use Rattle.qn_sites.proofs.given.own.Goals as goal

pub of_parts-requires : goal.of_parts-requires
of_parts-requires g c =
    let tables = c.in_ok-tables.ensures in
    let rise = subst AreAscending (sym (ap names tables.ok ∙ names_given c.args.group.now c.args.leg c.args.ops.items (λ o. record { name = o.0; charge = o.1; entries = o.2.items }))) c.requires.names in
    let few : length c.in_ok-tables.tables.items ≤ 64 = let e = ap length tables.ok ∙ (length-map _ (op_on c.args.group.now c.args.leg) ∙ length-map c.args.ops.items _) in omega (arith, e, c.requires.few) in (
      lit< tt,
      (
        lit< tt,
        (
          lit< tt,
          (
            lit< tt,
            rw c.in_ok-all.ensures (site_is c.args.group.now c.args.leg c.in_ok-tables.tables.items c.known.ensures.group c.requires.leg few rise tables.on tables.named),
          ),
        ),
      ),
    )
