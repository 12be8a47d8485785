use Rattle.std.proofs.Common.{◌≡◌, take}
use Rattle.qn_value.specs.Local.{picked}
use Rattle.qn_trace.proofs.numbers.sectors_of.Given as goal

abbrev pub invariant-loop-place : goal.invariant-loop-place
invariant-loop-place l = l.sectors.items ≡ picked 0 l.tuple (take l.place-index l.places)
