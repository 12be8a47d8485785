use Rattle.std.proofs.Common.{◌≡◌, take}
use Rattle.qn_value.specs.Local.{picked, no_leg}
use Rattle.qn_strides.proofs.places.legs_at.Given as goal

abbrev pub invariant-loop-k : goal.invariant-loop-k
invariant-loop-k g l = l.left.items ≡ picked no_leg l.legs (take l.k-index l.places)
