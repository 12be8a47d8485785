use Rattle.std.proofs.Common.{◌∙◌, ◌+◌, arith, subst, ap, sym, List}
use Rattle.std.specs.Prelude.{Option}
use Rattle.qn_board.specs.Machine.{Machine, IsTransition, IsMet}
use Rattle.qn_board.specs.Seats.{SeatValue}
use Rattle.qn_board.specs.Sound.{IsSound}
use Rattle.qn_board.specs.declared.event.Event.TheVariants.{Draw}
use Rattle.qn_board.proofs.Settles.{next_bound}
use Rattle.qn_board.proofs.Acting.{put_lt, put_back, ends_draw}
use Rattle.qn_board.proofs.machine.TaskMachine.draw.Goals as goal

pub put_seat-requires : goal.put_seat-requires
put_seat-requires c =
    put_lt c.self.inside.seats.items c.take_seat-s.new.seats.items c.args.k c.take_seat-s.result c.take_seat-s.ensures.was c.take_seat-s.ensures.gone

pub invariant_of-self : goal.invariant_of-self
invariant_of-self c =
    let e = put_back c.self.inside.seats.items c.take_seat-s.new.seats.items c.put_seat.new.seats.items c.args.k c.take_seat-s.result c.draw-drawn.new.self c.take_seat-s.ensures.was c.take_seat-s.ensures.gone c.put_seat.ensures c.in-Err.ensures.err in subst (λ (zs : List (Option SeatValue)). IsSound (record { n = c.self.inside.n; whole = c.self.inside.whole; next = c.self.inside.next; least = c.self.inside.least; seats = zs })) (sym e) c.self.invariant

pub returns-in-Err-clause-err : goal.returns-in-Err-clause-err
returns-in-Err-clause-err c =
    let e = put_back c.self.inside.seats.items c.take_seat-s.new.seats.items c.put_seat.new.seats.items c.args.k c.take_seat-s.result c.draw-drawn.new.self c.take_seat-s.ensures.was c.take_seat-s.ensures.gone c.put_seat.ensures c.in-Err.ensures.err in ap (λ (zs : List (Option SeatValue)). record { n = c.self.inside.n; whole = c.self.inside.whole; next = c.self.inside.next; least = c.self.inside.least; seats = zs }) e ∙ c.self.view_is

pub overflow_add-self : goal.overflow_add-self
overflow_add-self c =
    let b = next_bound c.args.self.now c.known.ensures in let t = c.known.ensures.tasks in let f = c.known.ensures.few in let p = ap (λ (v : Machine). v.next) c.self.view_is in omega arith

pub invariant_of-self-2 : goal.invariant_of-self-2
invariant_of-self-2 c =
    let m : Machine = record { n = c.self.inside.n; whole = c.self.inside.whole; next = c.self.inside.next; least = c.self.inside.least; seats = c.self.inside.seats.items } in let e = ends_draw m c.args.k c.take_seat-s.result c.draw-drawn.new.self c.take_seat-s.new.seats.items c.put_seat.new.seats.items c.drawn_reply.result c.self.invariant (subst (λ (v : Machine). IsMet v (Draw c.args.k)) (sym c.self.view_is) c.requires) c.take_seat-s.ensures.was c.take_seat-s.ensures.gone c.in-Ok.ensures.ok c.put_seat.ensures c.drawn_reply.ensures in e.1

pub returns-clause-ok : goal.returns-clause-ok
returns-clause-ok c =
    let m : Machine = record { n = c.self.inside.n; whole = c.self.inside.whole; next = c.self.inside.next; least = c.self.inside.least; seats = c.self.inside.seats.items } in let e = ends_draw m c.args.k c.take_seat-s.result c.draw-drawn.new.self c.take_seat-s.new.seats.items c.put_seat.new.seats.items c.drawn_reply.result c.self.invariant (subst (λ (v : Machine). IsMet v (Draw c.args.k)) (sym c.self.view_is) c.requires) c.take_seat-s.ensures.was c.take_seat-s.ensures.gone c.in-Ok.ensures.ok c.put_seat.ensures c.drawn_reply.ensures in subst (λ (v : Machine). IsTransition v (Draw c.args.k) c.drawn_reply.result (record m { next = m.next + 1; seats = c.put_seat.new.seats.items })) c.self.view_is e.0
