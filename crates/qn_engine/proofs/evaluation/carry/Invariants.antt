use Rattle.std.proofs.Common.{◌≤◌, ◌+◌, ◌-◌}
use Rattle.qn_net.specs.NetworkValues.{NetworkValue}
use Rattle.qn_engine.specs.Carrying.{IsOnWay}
use Rattle.qn_engine.proofs.Evaluating.{costs}
use Rattle.qn_engine.proofs.evaluation.carry.Given as goal

abbrev pub invariant-loop-i : goal.invariant-loop-i
invariant-loop-i g l =
    ((net : NetworkValue) → IsOnWay net l.planned l.twist l.from l.initial.parts.items → IsOnWay net l.planned l.twist l.i l.parts.items)
    × (l.steps ≤ l.initial.steps + costs l.planned l.from (l.i - l.from))
