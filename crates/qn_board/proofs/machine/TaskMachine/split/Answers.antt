use Rattle.std.proofs.Common.{◌∙◌, refl, arith, subst, ap, sym, List, [], ◌∷◌, length, set, length-append}
use Rattle.std.specs.Prelude.{Option, Some}
use Rattle.qn_board.specs.Machine.{Machine, IsTransition, IsMet}
use Rattle.qn_board.specs.Seats.{SeatValue}
use Rattle.qn_board.specs.Sound.{IsSound}
use Rattle.qn_board.specs.declared.event.Event.TheVariants.{Split}
use Rattle.qn_board.specs.declared.event.Reply.TheVariants.{Seat}
use Rattle.qn_board.proofs.Acting.{put_lt, put_back, ends_split}
use Rattle.qn_board.proofs.machine.TaskMachine.split.Goals as goal

pub put_seat-requires : goal.put_seat-requires
put_seat-requires c =
    let p = put_lt c.self.inside.seats.items c.take_seat-s.new.seats.items c.args.k c.take_seat-s.result c.take_seat-s.ensures.was c.take_seat-s.ensures.gone in let q = ap (λ (zs : List (Option SeatValue)). length zs) c.in-Err.ensures.err in omega arith

pub put_seat-requires-2 : goal.put_seat-requires-2
put_seat-requires-2 c =
    let p = put_lt c.self.inside.seats.items c.take_seat-s.new.seats.items c.args.k c.take_seat-s.result c.take_seat-s.ensures.was c.take_seat-s.ensures.gone in let q = ap (λ (zs : List (Option SeatValue)). length zs) c.in-Ok.ensures.ok in omega (arith, length-append c.take_seat-s.new.seats.items (Some c.given-given.result ∷ []))

pub invariant_of-self : goal.invariant_of-self
invariant_of-self c =
    let e = put_back c.self.inside.seats.items c.take_seat-s.new.seats.items c.put_seat.new.seats.items c.args.k c.take_seat-s.result c.take_seat-s.result c.take_seat-s.ensures.was c.take_seat-s.ensures.gone (c.put_seat.ensures ∙ ap (λ (zs : List (Option SeatValue)). set zs c.args.k (Some c.take_seat-s.result)) c.in-Err.ensures.err) refl in subst (λ (zs : List (Option SeatValue)). IsSound (record { n = c.self.inside.n; whole = c.self.inside.whole; next = c.self.inside.next; least = c.self.inside.least; seats = zs })) (sym e) c.self.invariant

pub returns-in-Err-clause-err : goal.returns-in-Err-clause-err
returns-in-Err-clause-err c =
    let e = put_back c.self.inside.seats.items c.take_seat-s.new.seats.items c.put_seat.new.seats.items c.args.k c.take_seat-s.result c.take_seat-s.result c.take_seat-s.ensures.was c.take_seat-s.ensures.gone (c.put_seat.ensures ∙ ap (λ (zs : List (Option SeatValue)). set zs c.args.k (Some c.take_seat-s.result)) c.in-Err.ensures.err) refl in ap (λ (zs : List (Option SeatValue)). record { n = c.self.inside.n; whole = c.self.inside.whole; next = c.self.inside.next; least = c.self.inside.least; seats = zs }) e ∙ c.self.view_is

pub invariant_of-self-2 : goal.invariant_of-self-2
invariant_of-self-2 c =
    let m : Machine = record { n = c.self.inside.n; whole = c.self.inside.whole; next = c.self.inside.next; least = c.self.inside.least; seats = c.self.inside.seats.items } in let e = ends_split m c.args.k c.args.give c.take_seat-s.result c.give.new.self c.given-given.result c.take_seat-s.new.seats.items c.add_seat-pushed.new.seats.items c.put_seat-2.new.seats.items c.len-count.result c.self.invariant (subst (λ (v : Machine). IsMet v (Split c.args.k c.args.give)) (sym c.self.view_is) c.requires) c.take_seat-s.ensures.was c.take_seat-s.ensures.gone c.given-given.ensures c.in-Ok.ensures.ok c.give.ensures c.put_seat-2.ensures (c.len-count.ensures ∙ c.self.inside.seats.ok.0) in e.1

pub returns-clause-ok : goal.returns-clause-ok
returns-clause-ok c =
    let m : Machine = record { n = c.self.inside.n; whole = c.self.inside.whole; next = c.self.inside.next; least = c.self.inside.least; seats = c.self.inside.seats.items } in let e = ends_split m c.args.k c.args.give c.take_seat-s.result c.give.new.self c.given-given.result c.take_seat-s.new.seats.items c.add_seat-pushed.new.seats.items c.put_seat-2.new.seats.items c.len-count.result c.self.invariant (subst (λ (v : Machine). IsMet v (Split c.args.k c.args.give)) (sym c.self.view_is) c.requires) c.take_seat-s.ensures.was c.take_seat-s.ensures.gone c.given-given.ensures c.in-Ok.ensures.ok c.give.ensures c.put_seat-2.ensures (c.len-count.ensures ∙ c.self.inside.seats.ok.0) in subst (λ (v : Machine). IsTransition v (Split c.args.k c.args.give) (Seat c.len-count.result) (record m { seats = c.put_seat-2.new.seats.items })) c.self.view_is e.0
