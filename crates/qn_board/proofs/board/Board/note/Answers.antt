use Rattle.std.proofs.Common.{◌∙◌, ◌++◌, [], ◌∷◌, min, ap, sym, subst, arith}
use Rattle.qn_board.specs.Lists.{IsIn}
use Rattle.qn_board.specs.declared.rule.View.{View}
use Rattle.qn_board.specs.Seats.{SeatValue}
use Rattle.qn_board.specs.Board.{state_in}
use Rattle.qn_board.specs.Board.{BoardValue, SeatOnBoard}
use Rattle.qn_board.proofs.Boarding.{note_allowed, noted, note_moved}
use Rattle.qn_board.proofs.board.Board.note.Goals as goal

pub fetch_min-requires : goal.fetch_min-requires
fetch_min-requires c =
    ((ap (λ (s : SeatOnBoard). s.board.id) c.seat.view_is ∙ (ap (λ (b : BoardValue). b.id) c.requires.here ∙ sym (ap (λ (b : BoardValue). b.id) c.self.view_is))), omega (arith, c.self.invariant.1), note_allowed c.self.inside.table.shared.key.n c.self.inside.table.shared.key.whole c.self.inside.table.shared.table_id.slots c.seat.inside.token.id c.args.task c.seat.inside.token.me (ap (λ m. m.0.seat) c.seat.invariant) (subst (λ (s : SeatOnBoard). IsIn c.args.task s.state.drawn) (sym c.seat.view_is) c.requires.drawn))

pub returns-clause-noted : goal.returns-clause-noted
returns-clause-noted c =
    let t = c.fetch_min.ensures.2.1 in let d = noted c.seat.inside.token.me.0.n c.seat.inside.token.me.0.whole c.fetch_min.result c.args.task (state_in c.seat.inside.token.me.0.seat) t.0 t.2 in let show = ap (λ (v : View). state_in v.seat) t.1 in show ∙ (d.0 ∙ (ap (λ (h : SeatValue). record h { noted = h.noted ++ c.args.task ∷ []; seen = t.0.seen }) (ap (λ (s : SeatOnBoard). s.state) c.seat.view_is) ∙ ap (λ (z : SeatValue). record c.args.seat.now.state { noted = c.args.seat.now.state.noted ++ c.args.task ∷ []; seen = z.seen }) (sym show)))

pub returns-clause-seen_task : goal.returns-clause-seen_task
returns-clause-seen_task c =
    let t = c.fetch_min.ensures.2.1 in
    let d = noted c.seat.inside.token.me.0.n c.seat.inside.token.me.0.whole c.fetch_min.result c.args.task (state_in c.seat.inside.token.me.0.seat) t.0 t.2 in
    let is = ap (λ (v : View). (state_in v.seat).seen) t.1 in omega (arith, d.1)

pub returns-clause-seen_before : goal.returns-clause-seen_before
returns-clause-seen_before c =
    let t = c.fetch_min.ensures.2.1 in
    let d = noted c.seat.inside.token.me.0.n c.seat.inside.token.me.0.whole c.fetch_min.result c.args.task (state_in c.seat.inside.token.me.0.seat) t.0 t.2 in
    let is = ap (λ (v : View). (state_in v.seat).seen) t.1 in
    let old = ap (λ (s : SeatOnBoard). s.state.seen) c.seat.view_is in omega (arith, d.2)

pub returns-clause-event : goal.returns-clause-event
returns-clause-event c =
    let t = c.fetch_min.ensures.2.1 in
    let d = noted c.seat.inside.token.me.0.n c.seat.inside.token.me.0.whole c.fetch_min.result c.args.task (state_in c.seat.inside.token.me.0.seat) t.0 t.2 in
    let show = ap (λ (v : View). state_in v.seat) t.1 in
    note_moved c.seat.inside.token.me.0.n c.args.self.now.n c.seat.inside.token.me.0.whole c.args.self.now.whole c.args.task (min c.fetch_min.result c.args.task) (state_in c.fetch_min.new.seat.me.0.seat).seen (state_in c.seat.inside.token.me.0.seat) c.args.seat.now.state t.0 (state_in c.fetch_min.new.seat.me.0.seat)
    (ap (λ (s : SeatOnBoard). s.board.n) c.seat.view_is ∙ ap (λ (b : BoardValue). b.n) c.requires.here)
    (ap (λ (s : SeatOnBoard). s.board.whole) c.seat.view_is ∙ ap (λ (b : BoardValue). b.whole) c.requires.here)
    (sym d.1 ∙ ap (λ (z : SeatValue). z.seen) (sym show))
    (ap (λ (s : SeatOnBoard). s.state) c.seat.view_is)
    (sym show)
    t.2
