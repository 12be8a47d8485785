use Rattle.std.proofs.Common.{lit<, ◌≡◌, ◌∙◌, ◌≤◌, List, ap, arith, length, map, subst}
use Rattle.qn_index.specs.declared.leg.Dir.TheVariants.{Out}
use Rattle.qn_index.specs.Legs.{LegValue, SectorValue, total}
use Rattle.qn_sites.specs.Kinds.{KindRow, kind_leg, kind_op}
use Rattle.qn_sites.specs.declared.fault.SiteFault.TheVariants.{Memory}
use Rattle.qn_sites.specs.Refusals.{IsOwnFault}
use Rattle.qn_sites.specs.KindRows.{kind_row}
use Rattle.qn_sites.proofs.KindFacts.{kind_count, kind_entries, kind_names, no_own_fault, total_single}
use Rattle.qn_sites.proofs.kind.site_of.Goals as goal
use Rattle.std.proofs.lemmas.Result.{IfErr-weaker}

pub own-requires : goal.own-requires
own-requires g c =
    let k : KindRow = kind_row c.args.kind.now in
    let is = c.known_kind.ensures.kind in
    let leg_with : List SectorValue → LegValue = λ ps. record { arrow = Out; sectors = ps } in
    let leg : c.in-Ok.leg ≡ kind_leg k = c.in-Ok.ensures.ok ∙ ap leg_with (c.in_ok-sectors.ensures ∙ c.known_kind.ensures.sectors) in
    let same = c.in_ok-ops.ensures ∙ c.known_kind.ensures.ops in
    let small : total c.in-Ok.leg.sectors ≤ 64 = rw leg (omega (arith, total_single k.charges, is.few)) in (
      lit< tt,
      (
        lit< tt,
        (
          lit< tt,
          (
            lit< tt,
            (
              record { sectors = c.known-2.ensures; charges = c.in-Ok.ensures.group; out = ap (λ (l : LegValue). l.arrow) leg; small = small },
              (
                kind_count k c.in_ok-ops.ops.items (λ o. record { name = o.0; charge = o.1; entries = o.2.items }) is same,
                (
                  kind_names k c.in_ok-ops.ops.items (λ o. record { name = o.0; charge = o.1; entries = o.2.items }) is same,
                  rw leg (kind_entries k c.in_ok-ops.ops.items (λ o. record { name = o.0; charge = o.1; entries = o.2.items }) same),
                ),
              ),
            ),
          ),
        ),
      ),
    )

pub returns-clause-err : goal.returns-clause-err
returns-clause-err g c =
    let k : KindRow = kind_row c.args.kind.now in
    let is = c.known_kind.ensures.kind in
    let leg_with : List SectorValue → LegValue = λ ps. record { arrow = Out; sectors = ps } in
    let leg : c.in-Ok.leg ≡ kind_leg k = c.in-Ok.ensures.ok ∙ ap leg_with (c.in_ok-sectors.ensures ∙ c.known_kind.ensures.sectors) in
    let same = c.in_ok-ops.ensures ∙ c.known_kind.ensures.ops in
    IfErr-weaker c.own.result (IsOwnFault c.args.group.now c.in-Ok.leg (map (λ o. record { name = o.0; charge = o.1; entries = o.2.items }) c.in_ok-ops.ops.items)) (λ e. e ≡ Memory)
    (λ e f. no_own_fault k e is
    (subst (λ fs. IsOwnFault fs (kind_leg k) (map (kind_op (length k.charges)) k.ops) e) c.requires.group
    (subst (λ l. IsOwnFault c.args.group.now l (map (kind_op (length k.charges)) k.ops) e) leg
    (subst (λ gs. IsOwnFault c.args.group.now c.in-Ok.leg gs e) same f))))
    c.own.ensures.err
