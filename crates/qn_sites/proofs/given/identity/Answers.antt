use Rattle.std.proofs.Common.{lit<, ap, ◌∙◌}
use Rattle.qn_sites.specs.Sites.{unit_table}
use Rattle.qn_sites.proofs.Made.{identity_operator, leg_some}
use Rattle.qn_sites.proofs.given.identity.Goals as goal

pub unit_entries-requires-clause-some : goal.unit_entries-requires-clause-some
unit_entries-requires-clause-some g c = rw c.dim.ensures (leg_some c.args.leg.now.sectors c.requires.sectors)

pub of_parts-requires : goal.of_parts-requires
of_parts-requires g c = (
  lit< tt,
  (
    lit< tt,
    (
      lit< tt,
      (
        lit< tt,
        rw (c.in_ok-copy.ensures, c.new-name.ensures, c.in_ok-from_str.ensures.ok, c.zero.ensures.value, c.in_ok-entries.ensures ∙ ap unit_table c.dim.ensures) (identity_operator c.args.group.now c.args.leg.now c.known.ensures.group c.requires),
      ),
    ),
  ),
)
