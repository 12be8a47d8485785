use Rattle.qn_gen.proofs.DrawnChains.{AreMade}
use Rattle.qn_gen.proofs.state.tensors.Given as goal

abbrev pub invariant-loop-k : goal.invariant-loop-k
invariant-loop-k l = AreMade l.fn.draws.x l.count l.k l.draws.x l.tensors.items
