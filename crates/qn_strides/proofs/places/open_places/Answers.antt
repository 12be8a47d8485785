use Rattle.std.proofs.Common.{rules}
use Rattle.qn_strides.proofs.Placing.{places_kept, places_passed}
use Rattle.qn_strides.proofs.places.open_places.Goals as goal
use Rattle.qn_strides.proofs.places.open_places.Goals.{then-not-is_coupled+in_ok-push, else-not-is_coupled}

pub loop-place-preserved : goal.loop-place-preserved
loop-place-preserved c =
    elim c.if-not-is_coupled.branch [
      | then-not-is_coupled+in_ok-push w ↦ search (rules, places_kept c.args.couples.now c.loop-place.place c.loop-place.places.items c.loop-place.invariant)
      | else-not-is_coupled w ↦ search (rules, places_passed c.args.couples.now c.loop-place.place c.loop-place.places.items c.loop-place.invariant)
    ]
