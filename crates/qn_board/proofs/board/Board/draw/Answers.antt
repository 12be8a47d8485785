use Rattle.std.proofs.Common.{◌∙◌, ◌<◌, ◌+◌, ◌++◌, [], ◌∷◌, ap, sym, subst, arith}
use Rattle.qn_board.specs.Lists.{IsIn}
use Rattle.qn_board.specs.declared.rule.View.{View}
use Rattle.qn_board.specs.Seats.{SeatValue}
use Rattle.qn_board.specs.Board.{state_in}
use Rattle.qn_board.specs.Board.{BoardValue, SeatOnBoard}
use Rattle.qn_board.proofs.Boarding.{draw_allowed, drew_some, drew_none, first_draw, first_draw_moved}
use Rattle.qn_board.proofs.board.Board.draw.Goals as goal

pub fetch_add-found-requires : goal.fetch_add-found-requires
fetch_add-found-requires c =
    ((ap (λ (s : SeatOnBoard). s.board.id) c.seat.view_is ∙ (ap (λ (b : BoardValue). b.id) c.requires.here ∙ sym (ap (λ (b : BoardValue). b.id) c.self.view_is))), omega (arith, c.self.invariant.1), draw_allowed c.self.inside.table.shared.key.n c.self.inside.table.shared.key.whole c.self.inside.table.shared.table_id.slots c.seat.inside.token.id c.seat.inside.token.me (ap (λ m. m.0.seat) c.seat.invariant) (subst (λ (s : SeatOnBoard). s.state.spent < s.state.weight) (sym c.seat.view_is) c.requires.unspent))

pub returns-then-found-self-clause-none : goal.returns-then-found-self-clause-none
returns-then-found-self-clause-none c =
    let t = c.fetch_add-found.ensures.2.1 in let size = ap (λ (s : SeatOnBoard). s.board.n) c.seat.view_is ∙ ap (λ (b : BoardValue). b.n) c.requires.here in let own = c.self.invariant.0 ∙ ap (λ (b : BoardValue). b.n) c.self.view_is in ap (λ (v : View). state_in v.seat) t.1 ∙ (drew_none c.seat.inside.token.me.0.n c.seat.inside.token.me.0.whole c.fetch_add-found.result (state_in c.seat.inside.token.me.0.seat) t.0 t.2 (omega (arith, c.if-found-self.true)) ∙ ap (λ (h : SeatValue). record h { spent = h.spent + 1 }) (ap (λ (s : SeatOnBoard). s.state) c.seat.view_is))

pub returns-clause-task : goal.returns-clause-task
returns-clause-task c =
    let t = c.fetch_add-found.ensures.2.1 in
    let size = ap (λ (s : SeatOnBoard). s.board.n) c.seat.view_is ∙ ap (λ (b : BoardValue). b.n) c.requires.here in
    let own = c.self.invariant.0 ∙ ap (λ (b : BoardValue). b.n) c.self.view_is in
    let d = drew_some c.seat.inside.token.me.0.n c.seat.inside.token.me.0.whole c.fetch_add-found.result (state_in c.seat.inside.token.me.0.seat) t.0 t.2 (omega (arith, c.if-found-self.false)) in
    ap (λ (v : View). state_in v.seat) t.1 ∙ (d.0 ∙ ap (λ (h : SeatValue). record h { drawn = h.drawn ++ c.fetch_add-found.result ∷ [] }) (ap (λ (s : SeatOnBoard). s.state) c.seat.view_is))

pub returns-clause-above : goal.returns-clause-above
returns-clause-above c =
    let t = c.fetch_add-found.ensures.2.1 in
    let size = ap (λ (s : SeatOnBoard). s.board.n) c.seat.view_is ∙ ap (λ (b : BoardValue). b.n) c.requires.here in
    let own = c.self.invariant.0 ∙ ap (λ (b : BoardValue). b.n) c.self.view_is in
    let d = drew_some c.seat.inside.token.me.0.n c.seat.inside.token.me.0.whole c.fetch_add-found.result (state_in c.seat.inside.token.me.0.seat) t.0 t.2 (omega (arith, c.if-found-self.false)) in
    λ x has. d.1 x (subst (λ (s : SeatOnBoard). IsIn x s.state.drawn) (sym c.seat.view_is) has)

pub returns-clause-undrawn : goal.returns-clause-undrawn
returns-clause-undrawn c =
    let t = c.fetch_add-found.ensures.2.1 in
    let size = ap (λ (s : SeatOnBoard). s.board.n) c.seat.view_is ∙ ap (λ (b : BoardValue). b.n) c.requires.here in
    let whole = ap (λ (s : SeatOnBoard). s.board.whole) c.seat.view_is ∙ ap (λ (b : BoardValue). b.whole) c.requires.here in
    let own = c.self.invariant.0 ∙ ap (λ (b : BoardValue). b.n) c.self.view_is in
    first_draw_moved c.seat.inside.token.me.0.n c.args.self.now.n c.seat.inside.token.me.0.whole c.args.self.now.whole c.fetch_add-found.result (state_in c.seat.inside.token.me.0.seat) c.args.seat.now.state t.0 (state_in c.fetch_add-found.new.seat.me.0.seat) size whole
    (ap (λ (s : SeatOnBoard). s.state) c.seat.view_is)
    (sym (ap (λ (v : View). state_in v.seat) t.1))
    (first_draw c.seat.inside.token.me.0.n c.seat.inside.token.me.0.whole c.fetch_add-found.result (state_in c.seat.inside.token.me.0.seat) t.0 t.2 (omega (arith, c.if-found-self.false)))
