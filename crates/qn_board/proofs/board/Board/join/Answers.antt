use Rattle.std.proofs.Common.{◌∙◌, ap, sym, arith}
use Rattle.qn_board.specs.Board.{BoardValue, SeatOnBoard}
use Rattle.qn_board.proofs.Boarding.{join_allowed}
use Rattle.qn_board.proofs.board.Board.join.Goals as goal

pub join_seat-requires : goal.join_seat-requires
join_seat-requires c =
    ((ap (λ (s : SeatOnBoard). s.board.id) c.a.view_is ∙ (ap (λ (b : BoardValue). b.id) c.requires.a ∙ sym (ap (λ (b : BoardValue). b.id) c.self.view_is))), (ap (λ (s : SeatOnBoard). s.board.id) c.b.view_is ∙ (ap (λ (b : BoardValue). b.id) c.requires.b ∙ sym (ap (λ (b : BoardValue). b.id) c.self.view_is))), ap (λ m. m.1) c.b.invariant, omega (arith, c.self.invariant.1), join_allowed c.self.inside.table.shared.key.n c.self.inside.table.shared.key.whole c.a.inside.token.id c.b.inside.token.id c.a.inside.token.me.0 c.b.inside.token.me.0 (ap (λ m. m.0.seat) c.a.invariant) (ap (λ m. m.0.seat) c.b.invariant))
