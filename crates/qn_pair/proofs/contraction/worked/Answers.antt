use Rattle.std.proofs.Common.{◌≡◌, ◌≤◌, ◌^◌, ◌∙◌, ℕ, length, arith}
use Rattle.std.specs.Prelude.{Vec}
use Rattle.std.specs.declared.alloc.Global.{Global}
use Rattle.qn_value.specs.Tensors.{BlockValue}
use Rattle.qn_pair.specs.Jobs.{tuples_of}
use Rattle.qn_pair.specs.Workers.{IsAll}
use Rattle.qn_pair.proofs.Ending.{fresh_first, outcome_is, price_all}
use Rattle.qn_pair.proofs.Tasks.{in_ok}
use Rattle.qn_pair.proofs.contraction.worked.Goals as goal

pub share_out-seat-requires-clause-fresh : goal.share_out-seat-requires-clause-fresh
share_out-seat-requires-clause-fresh g c κs within = fresh_first c.from-weight.result c.in_ok-board.seat.state c.in_ok-board.ensures.seat

pub returns-in-Ok-clause-outcome : goal.returns-in-Ok-clause-outcome
returns-in-Ok-clause-outcome g c =
    let s = c.share_out-seat.result.0.state in
    let count : c.in_ok-board.board.n ≡ length (tuples_of c.args.frame.now) = c.in_ok-board.ensures.tasks ∙ c.count.ensures.count in
    let few : c.in_ok-board.board.n ≤ 2 ^ 32 = omega (arith, c.in_ok-board.ensures.tasks, c.count.ensures.few) in
    let some : 1 ≤ c.from-weight.result = omega (arith, c.from-weight.ensures, c.requires.some) in
    let all : IsAll c.args.frame.now s c.in-Ok.done.items = in_ok (λ (v : Vec (ℕ × BlockValue) Global). IsAll c.args.frame.now s v.items) c.share_out-seat.result.2 c.in-Ok.done c.in-Ok.is c.share_out-seat.ensures.results in
    let e = c.finish-outcome.ensures in
    outcome_is c.args.frame.now c.from-weight.result c.in_ok-board.board.n c.share_out-seat.result.1 s c.in-Ok.done.items c.finish-outcome.result.least c.share_out-seat.ensures.work all some count few e.none e.least e.seen e.all

pub returns-in-Ok-clause-steps : goal.returns-in-Ok-clause-steps
returns-in-Ok-clause-steps g c =
    let count : c.in_ok-board.board.n ≡ length (tuples_of c.args.frame.now) = c.in_ok-board.ensures.tasks ∙ c.count.ensures.count in
    omega (arith, c.tick_all.ensures, price_all c.args.frame.now c.from-weight.result c.in_ok-board.board.n c.finish-outcome.result.next c.share_out-seat.result.1 c.share_out-seat.result.0.state c.priced.ensures c.share_out-seat.ensures.work count c.finish-outcome.ensures.drawn)

pub returns-in-Err-clause-steps : goal.returns-in-Err-clause-steps
returns-in-Err-clause-steps g c =
    let count : c.in_ok-board.board.n ≡ length (tuples_of c.args.frame.now) = c.in_ok-board.ensures.tasks ∙ c.count.ensures.count in
    omega (arith, c.tick_all.ensures, price_all c.args.frame.now c.from-weight.result c.in_ok-board.board.n c.finish-outcome.result.next c.share_out-seat.result.1 c.share_out-seat.result.0.state c.priced.ensures c.share_out-seat.ensures.work count c.finish-outcome.ensures.drawn)
