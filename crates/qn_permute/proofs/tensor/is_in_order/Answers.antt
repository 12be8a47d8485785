use Rattle.std.proofs.Common.{arith, ◌≡◌, get_or, refl}
use Rattle.qn_permute.proofs.Columns.{in_order_from, in_order_at}
use Rattle.qn_permute.proofs.tensor.is_in_order.Goals as goal

pub returns-then-k-i : goal.returns-then-k-i
returns-then-k-i c = (
  λ e. absurd (cc e),
  λ e. let here : get_or c.args.order.now c.loop-i.i 0 ≡ c.loop-i.i = in_order_at c.args.order.now c.loop-i.i e (omega arith) in absurd (omega (arith, here)),
)

pub returns : goal.returns
returns c = (λ e. in_order_from c.args.order.now (λ k lt. c.loop-i.invariant k (omega arith)), λ e. refl)
