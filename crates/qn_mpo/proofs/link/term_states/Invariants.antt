use Rattle.std.proofs.Common.{◌≡◌, map, take}
use Rattle.qn_auto.specs.Automaton.{stage}
use Rattle.qn_mpo.specs.States.{with_charge}
use Rattle.qn_mpo.proofs.link.term_states.Given as goal

abbrev pub invariant-loop-term : goal.invariant-loop-term
invariant-loop-term g l = l.out.items ≡ map (λ w. with_charge l.sum (stage l.j w.factors)) (take l.term-index l.terms)
