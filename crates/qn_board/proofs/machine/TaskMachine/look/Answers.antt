use Rattle.std.proofs.Common.{subst}
use Rattle.qn_board.specs.Machine.{Machine, IsTransition}
use Rattle.qn_board.specs.declared.event.Event.TheVariants.{Look}
use Rattle.qn_board.specs.declared.event.Reply.TheVariants.{Least}
use Rattle.qn_board.proofs.Acting.{put_lt, ends_look}
use Rattle.qn_board.proofs.machine.TaskMachine.look.Goals as goal

pub put_seat-requires : goal.put_seat-requires
put_seat-requires c =
    put_lt c.self.inside.seats.items c.take_seat-s.new.seats.items c.args.k c.take_seat-s.result c.take_seat-s.ensures.was c.take_seat-s.ensures.gone

pub invariant_of-self : goal.invariant_of-self
invariant_of-self c =
    let m : Machine = record { n = c.self.inside.n; whole = c.self.inside.whole; next = c.self.inside.next; least = c.self.inside.least; seats = c.self.inside.seats.items } in let e = ends_look m c.args.k c.take_seat-s.result c.see.new.self c.take_seat-s.new.seats.items c.put_seat.new.seats.items c.self.invariant c.take_seat-s.ensures.was c.take_seat-s.ensures.gone c.see.ensures c.put_seat.ensures in e.1

pub returns : goal.returns
returns c =
    let m : Machine = record { n = c.self.inside.n; whole = c.self.inside.whole; next = c.self.inside.next; least = c.self.inside.least; seats = c.self.inside.seats.items } in let e = ends_look m c.args.k c.take_seat-s.result c.see.new.self c.take_seat-s.new.seats.items c.put_seat.new.seats.items c.self.invariant c.take_seat-s.ensures.was c.take_seat-s.ensures.gone c.see.ensures c.put_seat.ensures in subst (λ (v : Machine). IsTransition v (Look c.args.k) (Least c.self.inside.least) (record m { seats = c.put_seat.new.seats.items })) c.self.view_is e.0
