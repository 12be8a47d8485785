use Rattle.qn_lazy.proofs.Sequences.{AreBefore}
use Rattle.qn_lazy.proofs.rules.apply_rules.Given as goal

abbrev pub invariant-loop-i : goal.invariant-loop-i
invariant-loop-i g l = AreBefore l.first l.initial.t l.t l.rules l.i l.initial.steps l.steps l.initial.asks l.asks
