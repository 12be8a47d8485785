use Rattle.std.proofs.Common.{◌≡◌, take}
use Rattle.qn_match.specs.Keys.{digits_of}
use Rattle.qn_match.proofs.index.key_of.Given as goal

abbrev pub invariant-loop-place : goal.invariant-loop-place
invariant-loop-place l = l.key.items ≡ digits_of (take l.place-index l.places) l.tuple
