use Rattle.std.proofs.Common.{◌≡◌, ◌<◌, ◌≤◌, ℕ, false}
use Rattle.qn_plan.specs.Shapes.{is_on, shape_at}
use Rattle.qn_plan.proofs.walk.find.Given as goal

abbrev pub invariant-loop-i : goal.invariant-loop-i
invariant-loop-i g l = (k : ℕ) → l.from ≤ k → k < l.i → is_on l.label (shape_at l.shapes k).ends ≡ false
