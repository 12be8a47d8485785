use Rattle.std.proofs.Common.{◌≡◌, map, negsuc}
use Rattle.qn_sign.specs.Positions.{positions}
use Rattle.qn_engine.specs.Labels.{place_in}
use Rattle.qn_engine.proofs.evaluation.open_order.Given as goal

abbrev pub invariant-loop-i : goal.invariant-loop-i
invariant-loop-i l = l.order.items ≡ map (λ i. place_in (negsuc i) l.labels) (positions l.i)
