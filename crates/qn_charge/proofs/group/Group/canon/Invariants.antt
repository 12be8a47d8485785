use Rattle.std.proofs.Common.{◌≡◌, take, length}
use Rattle.qn_charge.specs.Charges.{canon_charge}
use Rattle.qn_charge.proofs.group.Group.canon.Given as goal

abbrev pub invariant-loop-i : goal.invariant-loop-i
invariant-loop-i g l = record { four : length l.parts ≡ 4; filled : take l.i l.parts ≡ take l.i (canon_charge l.self l.c) }
