use Rattle.std.proofs.Common.{ℕ, ◌≤◌, ◌∙◌, ap, sym, subst, arith}
use Rattle.qn_board.specs.declared.rule.View.{View}
use Rattle.qn_board.specs.Seats.{SeatValue}
use Rattle.qn_board.specs.Board.{state_in}
use Rattle.qn_board.specs.Board.{BoardValue, SeatOnBoard}
use Rattle.qn_board.proofs.Boarding.{look_allowed, looked, step_once}
use Rattle.qn_board.specs.declared.event.Event.TheVariants.{Look}
use Rattle.qn_board.specs.declared.event.Reply.TheVariants.{Least}
use Rattle.qn_board.specs.Lists.{occurrences, once_below}
use Rattle.qn_board.proofs.board.Board.look.Goals as goal

pub load-requires : goal.load-requires
load-requires c =
    ((ap (λ (s : SeatOnBoard). s.board.id) c.seat.view_is ∙ (ap (λ (b : BoardValue). b.id) c.requires ∙ sym (ap (λ (b : BoardValue). b.id) c.self.view_is))), omega (arith, c.self.invariant.1), look_allowed c.self.inside.table.shared.key.n c.self.inside.table.shared.key.whole c.self.inside.table.shared.table_id.slots c.seat.inside.token.id c.seat.inside.token.me (ap (λ m. m.0.seat) c.seat.invariant))

pub returns-clause-seen : goal.returns-clause-seen
returns-clause-seen c =
    let t = c.load.ensures.2.1 in ap (λ (v : View). state_in v.seat) t.1 ∙ ((looked c.seat.inside.token.me.0.n c.seat.inside.token.me.0.whole c.load.result (state_in c.seat.inside.token.me.0.seat) t.0 t.2).0 ∙ ap (λ (h : SeatValue). record h { seen = c.load.result }) (ap (λ (s : SeatOnBoard). s.state) c.seat.view_is))

pub returns-clause-once : goal.returns-clause-once
returns-clause-once c = λ x.
    let t = c.load.ensures.2.1 in
    let p = step_once c.seat.inside.token.me.0.n c.seat.inside.token.me.0.whole Look (Least c.load.result) (state_in c.seat.inside.token.me.0.seat) t.0 t.2 x in
    let size = ap (λ (s : SeatOnBoard). s.board.n) c.seat.view_is ∙ ap (λ (b : BoardValue). b.n) c.requires in
    subst (λ (h : SeatValue). occurrences x h.drawn ≤ once_below x c.args.self.now.n) (ap (λ (s : SeatOnBoard). s.state) c.seat.view_is)
    (subst (λ (n : ℕ). occurrences x (state_in c.seat.inside.token.me.0.seat).drawn ≤ once_below x n) size p)
