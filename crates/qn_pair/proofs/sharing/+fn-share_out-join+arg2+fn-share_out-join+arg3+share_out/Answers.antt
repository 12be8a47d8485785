use Rattle.std.proofs.Common.{◌≤◌, ◌-◌, ◌/◌, ◌+◌, ℕ, arith, subst}
use Rattle.std.specs.Prelude.{Vec}
use Rattle.std.specs.declared.alloc.Global.{Global}
use Rattle.qn_value.specs.Tensors.{BlockValue}
use Rattle.qn_board.specs.Lists.{occurrences, once_below}
use Rattle.qn_pair.specs.Workers.{IsShared, IsAll}
use Rattle.qn_pair.proofs.Merging.{both_shared, both_all, both_fit, ok_both}
use Rattle.qn_pair.proofs.sharing.+fn-share_out-join+arg2+fn-share_out-join+arg3+share_out.Goals as goal

pub overflow_add-result : goal.overflow_add-result
overflow_add-result g t c =
    let a : IsShared (g.T.Tasks.job c.args.tasks.now) (c.args.workers - c.args.workers / 2) c.join-first.result.0.0.state c.join-first.result.0.1 = c.join-first.ensures.first.1 in
    let b : IsShared (g.T.Tasks.job c.args.tasks.now) (c.args.workers / 2) c.join-first.result.1.0.state c.join-first.result.1.1 = c.join-first.ensures.second.1 in
    omega (
      arith,
      both_fit (g.T.Tasks.job c.args.tasks.now) (c.args.workers - c.args.workers / 2) (c.args.workers / 2) c.join-first.result.0.0.state c.join-first.result.1.0.state c.join-seat.result.state c.join-first.result.0.1 c.join-first.result.1.1 a b c.join-seat.ensures.seat c.known.ensures
          (subst (λ (n : ℕ). (x : ℕ) → occurrences x c.join-seat.result.state.drawn ≤ once_below x n) c.requires.count c.look-seen.ensures.once),
    )

pub returns-clause-work : goal.returns-clause-work
returns-clause-work g t c =
    let a : IsShared (g.T.Tasks.job c.args.tasks.now) (c.args.workers - c.args.workers / 2) c.join-first.result.0.0.state c.join-first.result.0.1 = c.join-first.ensures.first.1 in
    let b : IsShared (g.T.Tasks.job c.args.tasks.now) (c.args.workers / 2) c.join-first.result.1.0.state c.join-first.result.1.1 = c.join-first.ensures.second.1 in
    subst (λ (k : ℕ). IsShared (g.T.Tasks.job c.args.tasks.now) k c.look-seen.new.seat.state (c.join-first.result.0.1 + c.join-first.result.1.1)) (omega arith)
    (both_shared (g.T.Tasks.job c.args.tasks.now) (c.args.workers - c.args.workers / 2) (c.args.workers / 2) c.join-first.result.0.0.state c.join-first.result.1.0.state c.join-seat.result.state c.look-seen.new.seat.state c.join-first.result.0.1 c.join-first.result.1.1 c.look-seen.result a b c.join-seat.ensures.seat c.look-seen.ensures.seen)

pub returns-clause-results : goal.returns-clause-results
returns-clause-results g t c =
    ok_both (λ (v : Vec (ℕ × BlockValue) Global). v.items) c.join-first.result.0.2 c.join-first.result.1.2 c.both.result (IsAll (g.T.Tasks.job c.args.tasks.now) c.join-first.result.0.0.state) (IsAll (g.T.Tasks.job c.args.tasks.now) c.join-first.result.1.0.state) (IsAll (g.T.Tasks.job c.args.tasks.now) c.look-seen.new.seat.state)
    c.join-first.ensures.first.2 c.join-first.ensures.second.2 c.both.ensures
    (λ ds es h k. both_all (g.T.Tasks.job c.args.tasks.now) c.join-first.result.0.0.state c.join-first.result.1.0.state c.join-seat.result.state c.look-seen.new.seat.state c.look-seen.result ds es h k c.join-seat.ensures.seat c.look-seen.ensures.seen c.look-seen.ensures.before)
