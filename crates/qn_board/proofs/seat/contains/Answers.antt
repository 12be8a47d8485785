use Rattle.std.proofs.Common.{refl, arith}
use Rattle.qn_board.proofs.Counting.{in_at, in_nowhere}
use Rattle.qn_board.proofs.seat.contains.Goals as goal

pub returns-then-y-x : goal.returns-then-y-x
returns-then-y-x c = ((λ _. in_at c.args.x c.args.xs.now c.loop-y.y-index 0 (omega arith) c.if-y-x.true), (λ _. refl))

pub returns : goal.returns
returns c = ((λ e. absurd (cc e)), (λ h. absurd (in_nowhere c.args.x c.args.xs.now (λ i lt e. c.loop-y.invariant i (omega arith) e) h)))
