use Rattle.std.proofs.Common.{◌≡◌, [], length, reverse}
use Rattle.qn_auto.specs.LinkOrder.{squeeze}
use Rattle.qn_mpo.specs.States.{value_lower}
use Rattle.qn_mpo.proofs.link.distinct.Given as goal

abbrev pub decreases-loop-state : goal.decreases-loop-state
decreases-loop-state g l = length l.rest.items

abbrev pub invariant-loop-state : goal.invariant-loop-state
invariant-loop-state g l = squeeze value_lower l.out.items (reverse l.rest.items) ≡ squeeze value_lower [] l.fn.states.items
