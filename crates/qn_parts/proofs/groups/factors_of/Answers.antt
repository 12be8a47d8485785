use Rattle.std.proofs.Common.{◌≡◌, ◌≤◌, ltb, length, map, false, None, refl, sym, subst}
use Rattle.std.proofs.lemmas.Bool.{le-ltb}
use Rattle.std.proofs.lemmas.List.{length-map}
use Rattle.serde_json.specs.View.{view}
use Rattle.qn_charge.specs.Charges.{IsGroup}
use Rattle.qn_parts.specs.Groups.{group_fault}
use Rattle.qn_parts.proofs.GroupSize.{few_factors}
use Rattle.qn_parts.proofs.Accepted.{sound_factors}
use Rattle.qn_parts.proofs.groups.factors_of.Goals as goal

pub returns : goal.returns
returns c =
    let few : ltb 4 (length (map view c.args.list.now)) ≡ false = le-ltb _ _ (rw length-map c.if-list-gt4.false) in
    let none : group_fault (map view c.args.list.now) ≡ None = rw (few, c.in_ok-check_moduli.ensures.0, c.in_ok-check_odd.ensures.0) refl in
    let made = c.in_ok-made_factors.ensures in (
      none,
      (
        made,
        subst (λ fs. length fs ≤ 4) (sym made) (few_factors (map view c.args.list.now) none),
        subst IsGroup (sym made) (sound_factors (map view c.args.list.now) none),
      ),
    )
