use Rattle.std.proofs.Common.{◌≡◌, map, take}
use Rattle.qn_auto.specs.Automaton.{normal}
use Rattle.qn_auto.specs.SumAutomaton.{sites_in, term_in}
use Rattle.qn_mpo.proofs.term.ordered_terms.Given as goal

abbrev pub invariant-loop-term : goal.invariant-loop-term
invariant-loop-term g l = l.out.items ≡ map (λ w. normal (sites_in l.sum) (term_in l.sum.sites w)) (take l.term l.sum.terms)
