use Rattle.std.proofs.Common.{◌≡◌, ◌<◌, ◌≤◌, ◌+◌, ℕ, List, [], ◌∷◌, ◌++◌, length, arith, subst, sym, ap, ◌∙◌}
use Rattle.qn_value.specs.Tensors.{BlockValue}
use Rattle.qn_board.specs.Lists.{IsIn}
use Rattle.qn_board.specs.Seats.{SeatValue}
use Rattle.qn_board.proofs.Counting.{in_right}
use Rattle.qn_pair.specs.Jobs.{tuples_of, share_at}
use Rattle.qn_pair.proofs.Loops.{one_in, IsLoop, loop_first, loop_moved, loop_more, price_fits, nearer}
use Rattle.qn_pair.proofs.worker.work_on.Goals as goal

pub loop-task-init : goal.loop-task-init
loop-task-init g c =
    (c.requires.here, omega arith, ([], [], subst (λ (ds : List (ℕ × BlockValue)). IsLoop (g.T.Tasks.job c.args.tasks.now) c.args.seat.state c.args.seat.state 0 ds [] []) (sym c.new-done.ensures.items) (loop_first (g.T.Tasks.job c.args.tasks.now) c.args.seat.state)))

pub overflow_add-cost : goal.overflow_add-cost
overflow_add-cost g c =
    let inv = c.loop-task.invariant.2 in
    let lt : c.in-Some.task < length (tuples_of (g.T.Tasks.job c.args.tasks.now)) = omega (arith, c.in-Some.ensures.below, c.requires.count) in
    let paid : c.products-cost.result ≤ share_at (g.T.Tasks.job c.args.tasks.now) c.in-Some.task = omega (arith, c.products-cost.ensures.value, c.known.ensures.each c.in-Some.task) in
    omega (arith, price_fits (g.T.Tasks.job c.args.tasks.now) c.args.seat.state c.loop-task.seat.state c.loop-task.cost c.products-cost.result c.in-Some.task c.loop-task.done.items inv.0 inv.1 inv.2 lt c.in-Some.ensures.above paid c.known.ensures)

pub do_task-requires : goal.do_task-requires
do_task-requires g c =
    let drawn : c.draw.new.seat.state.drawn ≡ c.loop-task.seat.state.drawn ++ c.in-Some.task ∷ [] = ap (λ (u : SeatValue). u.drawn) c.in-Some.ensures.task in
    record {
      here = c.draw.ensures.board;
      drawn = subst (λ (xs : List ℕ). IsIn c.in-Some.task xs) (sym drawn) (in_right c.in-Some.task c.loop-task.seat.state.drawn (c.in-Some.task ∷ []) (one_in c.in-Some.task));
      task = omega (arith, c.in-Some.ensures.below, c.requires.count);
    }

pub loop-task-smaller : goal.loop-task-smaller
loop-task-smaller g c =
    let lt : c.in-Some.task < length (tuples_of (g.T.Tasks.job c.args.tasks.now)) = omega (arith, c.in-Some.ensures.below, c.requires.count) in
    nearer (length (tuples_of (g.T.Tasks.job c.args.tasks.now))) c.in-Some.task c.loop-task.seat.state.drawn c.do_task.new.seat.state.drawn lt c.in-Some.ensures.above (ap (λ (u : SeatValue). u.drawn) c.in-Ok.ensures.one.1.kept ∙ ap (λ (u : SeatValue). u.drawn) c.in-Some.ensures.task)

pub loop-task-preserved : goal.loop-task-preserved
loop-task-preserved g c =
    let inv = c.loop-task.invariant.2 in
    let lt : c.in-Some.task < length (tuples_of (g.T.Tasks.job c.args.tasks.now)) = omega (arith, c.in-Some.ensures.below, c.requires.count) in
    let paid : c.products-cost.result ≤ share_at (g.T.Tasks.job c.args.tasks.now) c.in-Some.task = omega (arith, c.products-cost.ensures.value, c.known.ensures.each c.in-Some.task) in
    let o = c.in-Ok.ensures.one in
    let l = loop_more (g.T.Tasks.job c.args.tasks.now) c.args.seat.state c.loop-task.seat.state c.draw.new.seat.state c.do_task.new.seat.state c.loop-task.cost c.products-cost.result c.in-Some.task c.loop-task.done.items o.2.0 inv.0 inv.1 o.0 inv.2 c.in-Some.ensures.task lt c.in-Some.ensures.above paid o.1 o.2.1 in (
      c.in-Ok.ensures.board,
      omega (arith, c.loop-task.invariant.1, c.in-Ok.ensures.ticks, c.products-cost.ensures.value),
      (inv.0 ++ c.in-Some.task ∷ [], inv.1 ++ o.0, subst (λ (ds : List (ℕ × BlockValue)). IsLoop (g.T.Tasks.job c.args.tasks.now) c.args.seat.state c.do_task.new.seat.state (c.loop-task.cost + c.products-cost.result) ds (inv.0 ++ c.in-Some.task ∷ []) (inv.1 ++ o.0)) (sym o.2.2) l),
    )

pub returns-in-Err-clause-work : goal.returns-in-Err-clause-work
returns-in-Err-clause-work g c =
    let inv = c.loop-task.invariant.2 in
    let paid : c.products-cost.result ≤ share_at (g.T.Tasks.job c.args.tasks.now) c.in-Some.task = omega (arith, c.products-cost.ensures.value, c.known.ensures.each c.in-Some.task) in
    let o = c.in-Err.ensures.one in
    let l = loop_moved (g.T.Tasks.job c.args.tasks.now) c.args.seat.state c.loop-task.seat.state c.draw.new.seat.state c.do_task.new.seat.state c.loop-task.cost c.products-cost.result c.in-Some.task c.loop-task.done.items inv.0 inv.1 o.0 inv.2 c.in-Some.ensures.task paid o.1 in
    (inv.0 ++ c.in-Some.task ∷ [], inv.1 ++ o.0, l.worked, l.price, omega (arith, l.spent))
