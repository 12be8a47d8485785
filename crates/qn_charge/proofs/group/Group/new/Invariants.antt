use Rattle.std.proofs.Common.{ℕ, ◌<◌}
use Rattle.qn_charge.specs.Firsts.{HasNone}
use Rattle.qn_charge.specs.Faults.{BadModulusAt, OddFermionAt}
use Rattle.qn_charge.proofs.group.Group.new.Given as goal

abbrev pub invariant-loop-i : goal.invariant-loop-i
invariant-loop-i g l = (j : ℕ) → j < l.i → BadModulusAt l.factors j → ⊥

abbrev pub invariant-loop-i-2 : goal.invariant-loop-i-2
invariant-loop-i-2 g l = record {
  modulus : HasNone (BadModulusAt l.factors);
  parity : (j : ℕ) → j < l.i → OddFermionAt l.factors j → ⊥;
}
