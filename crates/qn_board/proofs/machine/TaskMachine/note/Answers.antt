use Rattle.std.proofs.Common.{◌∙◌, subst, ap, sym, List}
use Rattle.std.specs.Prelude.{Option}
use Rattle.qn_board.specs.Machine.{Machine, IsTransition, IsMet}
use Rattle.qn_board.specs.Seats.{SeatValue}
use Rattle.qn_board.specs.Sound.{IsSound}
use Rattle.qn_board.specs.declared.event.Event.TheVariants.{Note}
use Rattle.qn_board.specs.declared.event.Reply.TheVariants.{Least}
use Rattle.qn_board.proofs.Acting.{put_lt, put_back, ends_note}
use Rattle.qn_board.proofs.machine.TaskMachine.note.Goals as goal

pub put_seat-requires : goal.put_seat-requires
put_seat-requires c =
    put_lt c.self.inside.seats.items c.take_seat-s.new.seats.items c.args.k c.take_seat-s.result c.take_seat-s.ensures.was c.take_seat-s.ensures.gone

pub invariant_of-self : goal.invariant_of-self
invariant_of-self c =
    let e = put_back c.self.inside.seats.items c.take_seat-s.new.seats.items c.put_seat.new.seats.items c.args.k c.take_seat-s.result c.note-noted.new.self c.take_seat-s.ensures.was c.take_seat-s.ensures.gone c.put_seat.ensures c.in-Err.ensures.err in subst (λ (zs : List (Option SeatValue)). IsSound (record { n = c.self.inside.n; whole = c.self.inside.whole; next = c.self.inside.next; least = c.self.inside.least; seats = zs })) (sym e) c.self.invariant

pub returns-in-Err-clause-err : goal.returns-in-Err-clause-err
returns-in-Err-clause-err c =
    let e = put_back c.self.inside.seats.items c.take_seat-s.new.seats.items c.put_seat.new.seats.items c.args.k c.take_seat-s.result c.note-noted.new.self c.take_seat-s.ensures.was c.take_seat-s.ensures.gone c.put_seat.ensures c.in-Err.ensures.err in ap (λ (zs : List (Option SeatValue)). record { n = c.self.inside.n; whole = c.self.inside.whole; next = c.self.inside.next; least = c.self.inside.least; seats = zs }) e ∙ c.self.view_is

pub invariant_of-self-2 : goal.invariant_of-self-2
invariant_of-self-2 c =
    let m : Machine = record { n = c.self.inside.n; whole = c.self.inside.whole; next = c.self.inside.next; least = c.self.inside.least; seats = c.self.inside.seats.items } in let e = ends_note m c.args.k c.args.task c.take_seat-s.result c.note-noted.new.self c.take_seat-s.new.seats.items c.put_seat.new.seats.items c.lesser-least.result c.self.invariant (subst (λ (v : Machine). IsMet v (Note c.args.k c.args.task)) (sym c.self.view_is) c.requires) c.take_seat-s.ensures.was c.take_seat-s.ensures.gone c.lesser-least.ensures c.in-Ok.ensures.ok c.put_seat.ensures in e.1

pub returns-clause-ok : goal.returns-clause-ok
returns-clause-ok c =
    let m : Machine = record { n = c.self.inside.n; whole = c.self.inside.whole; next = c.self.inside.next; least = c.self.inside.least; seats = c.self.inside.seats.items } in let e = ends_note m c.args.k c.args.task c.take_seat-s.result c.note-noted.new.self c.take_seat-s.new.seats.items c.put_seat.new.seats.items c.lesser-least.result c.self.invariant (subst (λ (v : Machine). IsMet v (Note c.args.k c.args.task)) (sym c.self.view_is) c.requires) c.take_seat-s.ensures.was c.take_seat-s.ensures.gone c.lesser-least.ensures c.in-Ok.ensures.ok c.put_seat.ensures in subst (λ (v : Machine). IsTransition v (Note c.args.k c.args.task) (Least c.lesser-least.result) (record m { least = c.lesser-least.result; seats = c.put_seat.new.seats.items })) c.self.view_is e.0
