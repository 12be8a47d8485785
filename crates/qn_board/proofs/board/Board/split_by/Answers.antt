use Rattle.std.proofs.Common.{◌∙◌, ◌<◌, ◌-◌, ap, sym, subst, arith}
use Rattle.qn_board.specs.Board.{BoardValue, SeatOnBoard}
use Rattle.qn_board.proofs.Boarding.{split_allowed}
use Rattle.qn_board.proofs.board.Board.split_by.Goals as goal

pub split_seat-other-requires : goal.split_seat-other-requires
split_seat-other-requires g c =
    let p = subst (λ (s : SeatOnBoard). c.args.give < s.state.weight - s.state.spent) (sym c.seat.view_is) c.requires.unspent in let a = c.requires.amount in ((ap (λ (s : SeatOnBoard). s.board.id) c.seat.view_is ∙ (ap (λ (b : BoardValue). b.id) c.requires.here ∙ sym (ap (λ (b : BoardValue). b.id) c.self.view_is))), omega (arith, c.self.invariant.1), split_allowed c.self.inside.table.shared.key.n c.self.inside.table.shared.key.whole c.seat.inside.token.id g.G.Amount.give c.seat.inside.token.me.0 (ap (λ m. m.0.seat) c.seat.invariant) (omega (arith, c.requires.some)) (omega arith))
