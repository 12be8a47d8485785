use Rattle.std.proofs.Common.{◌≡◌, ◌+◌, pos, length, Some, None, refl, sym, ap, ◌∙◌}
use Rattle.std.specs.Option.{option_map}
use Rattle.qn_parts.specs.Faults.{fault}
use Rattle.qn_parts.proofs.Ranges.{first_out_is, is_flux}
use Rattle.qn_parts.proofs.legs.flux_in_range.Goals as goal

pub returns-in-Some : goal.returns-in-Some
returns-in-Some g c =
    ap (option_map (λ i. fault 12 c.args.tensor 0 (i + 1)))
    (sym (first_out_is (Some c.in-Some.i) (pos 1000000000000) c.args.group.now c.args.flux (c.known-2.ensures.count ∙ sym c.known.ensures.count) c.in-Some.ensures))
    ∙ ap Some (sym c.at.ensures)

pub returns-in-None : goal.returns-in-None
returns-in-None g c =
    let count : length c.args.flux ≡ length c.args.group.now = c.known-2.ensures.count ∙ sym c.known.ensures.count in (
      ap (option_map (λ i. fault 12 c.args.tensor 0 (i + 1))) (sym (first_out_is None (pos 1000000000000) c.args.group.now c.args.flux count c.in-None.ensures)),
      (refl, (is_flux c.args.group.now c.args.flux count c.in-None.ensures).0, (is_flux c.args.group.now c.args.flux count c.in-None.ensures).1),
    )
