use Rattle.std.proofs.Common.{◌∙◌, arith, subst, ap, sym, List, length}
use Rattle.std.specs.Prelude.{Option, Some, None}
use lib.ListN.{length-set}
use Rattle.qn_board.specs.Machine.{Machine, IsTransition, IsMet}
use Rattle.qn_board.specs.Seats.{SeatValue}
use Rattle.qn_board.specs.Sound.{IsSound}
use Rattle.qn_board.specs.declared.event.Event.TheVariants.{Join}
use Rattle.qn_board.specs.declared.event.Reply.TheVariants.{Joined}
use Rattle.qn_board.proofs.Acting.{put_lt, join_other, ends_join, unjoined, join_small, seat_lt}
use Rattle.qn_board.proofs.machine.TaskMachine.join.Goals as goal

pub take_seat-o-requires : goal.take_seat-o-requires
take_seat-o-requires c =
    let m : Machine = record { n = c.self.inside.n; whole = c.self.inside.whole; next = c.self.inside.next; least = c.self.inside.least; seats = c.self.inside.seats.items } in join_other m c.args.k c.args.l c.take_seat-s.new.seats.items (subst (λ (v : Machine). IsMet v (Join c.args.k c.args.l)) (sym c.self.view_is) c.requires) c.take_seat-s.ensures.gone

pub join-joined-requires-clause-weight : goal.join-joined-requires-clause-weight
join-joined-requires-clause-weight c =
    let m : Machine = record { n = c.self.inside.n; whole = c.self.inside.whole; next = c.self.inside.next; least = c.self.inside.least; seats = c.self.inside.seats.items } in (join_small m c.args.k c.args.l c.take_seat-s.result c.take_seat-o.result c.take_seat-s.new.seats.items c.self.invariant c.take_seat-s.ensures.was c.take_seat-s.ensures.gone c.take_seat-o.ensures.was).0

pub join-joined-requires-clause-spent : goal.join-joined-requires-clause-spent
join-joined-requires-clause-spent c =
    let m : Machine = record { n = c.self.inside.n; whole = c.self.inside.whole; next = c.self.inside.next; least = c.self.inside.least; seats = c.self.inside.seats.items } in (join_small m c.args.k c.args.l c.take_seat-s.result c.take_seat-o.result c.take_seat-s.new.seats.items c.self.invariant c.take_seat-s.ensures.was c.take_seat-s.ensures.gone c.take_seat-o.ensures.was).1

pub put_seat-requires : goal.put_seat-requires
put_seat-requires c =
    let p = put_lt c.self.inside.seats.items c.take_seat-s.new.seats.items c.args.k c.take_seat-s.result c.take_seat-s.ensures.was c.take_seat-s.ensures.gone in let q = ap (λ (zs : List (Option SeatValue)). length zs) c.take_seat-o.ensures.gone in let r = length-set c.take_seat-s.new.seats.items c.args.l None in omega arith

pub put_seat-requires-in-Err : goal.put_seat-requires-in-Err
put_seat-requires-in-Err c =
    let p = seat_lt c.take_seat-s.new.seats.items c.args.l c.take_seat-o.result c.take_seat-o.ensures.was in let q = ap (λ (zs : List (Option SeatValue)). length zs) c.take_seat-o.ensures.gone in let r = length-set c.take_seat-s.new.seats.items c.args.l None in let t = ap (λ (zs : List (Option SeatValue)). length zs) c.put_seat.ensures in let u = length-set c.take_seat-o.new.seats.items c.args.k (Some c.join-joined.new.self) in omega arith

pub invariant_of-self-in-Err : goal.invariant_of-self-in-Err
invariant_of-self-in-Err c =
    let m : Machine = record { n = c.self.inside.n; whole = c.self.inside.whole; next = c.self.inside.next; least = c.self.inside.least; seats = c.self.inside.seats.items } in let e = unjoined m c.args.k c.args.l c.take_seat-s.result c.join-joined.new.self c.take_seat-o.result c.take_seat-s.new.seats.items c.take_seat-o.new.seats.items c.put_seat.new.seats.items c.put_seat-in-Err.new.seats.items (subst (λ (v : Machine). IsMet v (Join c.args.k c.args.l)) (sym c.self.view_is) c.requires) c.take_seat-s.ensures.was c.take_seat-s.ensures.gone c.take_seat-o.ensures.was c.take_seat-o.ensures.gone c.in-Err.ensures.err c.put_seat.ensures c.put_seat-in-Err.ensures in subst (λ (zs : List (Option SeatValue)). IsSound (record { n = c.self.inside.n; whole = c.self.inside.whole; next = c.self.inside.next; least = c.self.inside.least; seats = zs })) (sym e) c.self.invariant

pub returns-in-Err-clause-err : goal.returns-in-Err-clause-err
returns-in-Err-clause-err c =
    let m : Machine = record { n = c.self.inside.n; whole = c.self.inside.whole; next = c.self.inside.next; least = c.self.inside.least; seats = c.self.inside.seats.items } in let e = unjoined m c.args.k c.args.l c.take_seat-s.result c.join-joined.new.self c.take_seat-o.result c.take_seat-s.new.seats.items c.take_seat-o.new.seats.items c.put_seat.new.seats.items c.put_seat-in-Err.new.seats.items (subst (λ (v : Machine). IsMet v (Join c.args.k c.args.l)) (sym c.self.view_is) c.requires) c.take_seat-s.ensures.was c.take_seat-s.ensures.gone c.take_seat-o.ensures.was c.take_seat-o.ensures.gone c.in-Err.ensures.err c.put_seat.ensures c.put_seat-in-Err.ensures in ap (λ (zs : List (Option SeatValue)). record { n = c.self.inside.n; whole = c.self.inside.whole; next = c.self.inside.next; least = c.self.inside.least; seats = zs }) e ∙ c.self.view_is

pub invariant_of-self : goal.invariant_of-self
invariant_of-self c =
    let m : Machine = record { n = c.self.inside.n; whole = c.self.inside.whole; next = c.self.inside.next; least = c.self.inside.least; seats = c.self.inside.seats.items } in let e = ends_join m c.args.k c.args.l c.take_seat-s.result c.join-joined.new.self c.take_seat-o.result c.take_seat-s.new.seats.items c.take_seat-o.new.seats.items c.put_seat.new.seats.items c.self.invariant (subst (λ (v : Machine). IsMet v (Join c.args.k c.args.l)) (sym c.self.view_is) c.requires) c.take_seat-s.ensures.was c.take_seat-s.ensures.gone c.take_seat-o.ensures.was c.take_seat-o.ensures.gone c.in-Ok.ensures.ok c.put_seat.ensures in e.1

pub returns-clause-ok : goal.returns-clause-ok
returns-clause-ok c =
    let m : Machine = record { n = c.self.inside.n; whole = c.self.inside.whole; next = c.self.inside.next; least = c.self.inside.least; seats = c.self.inside.seats.items } in let e = ends_join m c.args.k c.args.l c.take_seat-s.result c.join-joined.new.self c.take_seat-o.result c.take_seat-s.new.seats.items c.take_seat-o.new.seats.items c.put_seat.new.seats.items c.self.invariant (subst (λ (v : Machine). IsMet v (Join c.args.k c.args.l)) (sym c.self.view_is) c.requires) c.take_seat-s.ensures.was c.take_seat-s.ensures.gone c.take_seat-o.ensures.was c.take_seat-o.ensures.gone c.in-Ok.ensures.ok c.put_seat.ensures in subst (λ (v : Machine). IsTransition v (Join c.args.k c.args.l) Joined (record m { seats = c.put_seat.new.seats.items })) c.self.view_is e.0
