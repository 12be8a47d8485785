use Rattle.std.proofs.Common.{◌≡◌, drop}
use Rattle.qn_sign.specs.Sign.{xor}
use Rattle.qn_engine.specs.Parts.{is_odd_number}
use Rattle.qn_engine.proofs.part.is_odd_number.Given as goal

abbrev pub invariant-loop-i : goal.invariant-loop-i
invariant-loop-i g l = xor l.odd (is_odd_number (drop l.i l.parts)) ≡ is_odd_number l.parts
