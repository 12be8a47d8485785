use Rattle.std.proofs.Common.{rules, ◌≡◌, pos, get_or, to_z, of_z, w64, not, ap}
use Rattle.qn_plan.proofs.Parted.{parted_more}
use Rattle.qn_plan.proofs.ends.part_couples.Goals as goal

pub loop-rest-preserved : goal.loop-rest-preserved
loop-rest-preserved c =
    let item : to_z w64 (of_z w64 (get_or c.loop-rest.rest.now 0 (pos 0))) ≡ get_or c.loop-rest.rest.now 0 (pos 0) = search rules in (
      parted_more _ c.loop-rest.rest.now _ c.has_couple.result _ _ _ c.in-len1-up.len_at_least item c.has_couple.ensures c.in_ok-part.ensures.summed c.loop-rest.invariant.0,
      parted_more _ c.loop-rest.rest.now _ (not c.has_couple.result) _ _ _ c.in-len1-up.len_at_least item (ap not c.has_couple.ensures) c.in_ok-part.ensures.left c.loop-rest.invariant.1,
    )
