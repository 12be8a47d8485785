use Rattle.std.proofs.Common.{◌≡◌, map, take}
use Rattle.qn_charge.specs.Charges.{parity}
use Rattle.qn_opsum.specs.Sums.{op_for}
use Rattle.qn_opsum.proofs.normal.marks_of.Given as goal

abbrev pub invariant-loop-i : goal.invariant-loop-i
invariant-loop-i g l = l.marks.items ≡ map (λ f. (f.0, parity l.group (op_for l.sites f).charge)) (take l.i l.factors)
