use Rattle.std.proofs.Common.{◌≡◌, take}
use Rattle.qn_engine.specs.Parts.{member_parts}
use Rattle.qn_engine.proofs.part.parts_of.Given as goal

abbrev pub invariant-loop-i : goal.invariant-loop-i
invariant-loop-i g l = l.parts.items ≡ member_parts 1 (take l.i l.members)
