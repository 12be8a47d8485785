use Rattle.std.proofs.Common.{◌≡◌, ◌+◌, drop}
use Rattle.qn_engine.specs.Parts.{place_of}
use Rattle.qn_engine.proofs.part.place_of.Given as goal

abbrev pub invariant-loop-i : goal.invariant-loop-i
invariant-loop-i g l = place_of l.number l.parts ≡ l.i + place_of l.number (drop l.i l.parts)
