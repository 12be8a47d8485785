use Rattle.std.proofs.Common.{◌≡◌, drop, reverse}
use Rattle.qn_auto.specs.LinkOrder.{sectors_of}
use Rattle.qn_auto.specs.SumAutomaton.{charge_lower}
use Rattle.qn_mpo.specs.States.{charges}
use Rattle.qn_mpo.proofs.link.sectors_of.Given as goal

abbrev pub invariant-loop-i : goal.invariant-loop-i
invariant-loop-i g l = reverse l.sectors.items ≡ sectors_of charge_lower (charges (drop l.i l.states))
