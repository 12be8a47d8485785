use Rattle.std.proofs.Common.{◌≡◌, take}
use Rattle.qn_match.specs.Keys.{bases_of}
use Rattle.qn_match.proofs.keys.bases_of.Given as goal

abbrev pub invariant-loop-pair : goal.invariant-loop-pair
invariant-loop-pair g l = l.bases.items ≡ bases_of (take l.pair-index l.shared) l.legs
