use Rattle.std.proofs.Common.{◌≡◌, take}
use Rattle.qn_auto.specs.Automaton.{after}
use Rattle.qn_mpo.proofs.factor.after.Given as goal

abbrev pub invariant-loop-factor : goal.invariant-loop-factor
invariant-loop-factor l = l.out.items ≡ after l.j (take l.factor-index l.factors)
