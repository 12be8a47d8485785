use Rattle.std.proofs.Common.{ap, arith}
use Rattle.qn_board.specs.Board.{BoardValue, SeatOnBoard}
use Rattle.qn_board.proofs.Boarding.{ends}
use Rattle.qn_board.proofs.board.Board.last_words.Goals as goal

pub free-requires : goal.free-requires
free-requires c = λ k lt. absurd (let a = c.close_with-closed.ensures.counts.1 in let b = c.self.invariant.2 in omega arith)

pub returns : goal.returns
returns c =
    let v = c.close_with-closed.ensures.values in
    let f = v.2 in
    ends c.self.inside.table.shared.key.n c.args.self.n c.self.inside.table.shared.key.whole c.args.self.whole _ c.seat.inside.token.id c.seat.inside.token.me.0 c.args.seat.state c.word-next.result c.word-least.result f.0 f.1 f.2
    (ap (λ m. m.0.seat) c.seat.invariant) (ap (λ (s : SeatOnBoard). s.state) c.seat.view_is) (ap (λ (b : BoardValue). b.n) c.self.view_is) (ap (λ (b : BoardValue). b.whole) c.self.view_is) c.word-next.ensures c.word-least.ensures
