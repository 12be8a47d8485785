use Rattle.std.proofs.Common.{◌≡◌, ◌++◌, take, drop}
use Rattle.qn_block.specs.Combiners.{put}
use Rattle.qn_block.proofs.charges.place_of.Given as goal

abbrev pub invariant-loop-i : goal.invariant-loop-i
invariant-loop-i g l = put l.charge l.charges ≡ take l.i l.charges ++ put l.charge (drop l.i l.charges)
