use Rattle.std.proofs.Common.{◌∙◌, ap, sym}
use Rattle.std.specs.List.{insert}
use Rattle.qn_sites.specs.Sites.{identity_on, set_in}
use Rattle.qn_sites.proofs.Ascents.{set_is_insert}
use Rattle.qn_sites.proofs.given.with_identity.Goals as goal

pub returns : goal.returns
returns g c =
    let place = c.count_before-place.ensures in
    c.in_ok-insert.ensures.items
    ∙ (ap (insert c.args.ops.items c.count_before-place.result) c.in_ok-identity.ensures
    ∙ sym (set_is_insert (identity_on c.args.group.now c.args.leg.now) c.args.ops.items c.count_before-place.result
    (rw c.deref.ensures.value at place.within) (rw c.deref.ensures.value at place.below) (rw c.deref.ensures.value at place.above)))
