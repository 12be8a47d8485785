use Rattle.std.proofs.Common.{sym, ◌∙◌, arith}
use Rattle.qn_board.proofs.Acting.{seat_in, seat_lt}
use Rattle.qn_board.proofs.seat.take_seat.Goals as goal

pub index_mut-requires : goal.index_mut-requires
index_mut-requires c = omega (arith, c.args.seats.now.ok.0, seat_lt c.args.seats.now.items c.args.k c.requires.0 c.requires.1)

pub unreachable-requires : goal.unreachable-requires
unreachable-requires c =
    let at = seat_in c.args.seats.now.items c.args.k c.index_mut.result.now c.index_mut.result.now (seat_lt c.args.seats.now.items c.args.k c.requires.0 c.requires.1) c.index_mut.ensures.value in
    cc (at, c.requires.1, c.take.ensures.value, c.in-None.is)

pub returns-clause-was : goal.returns-clause-was
returns-clause-was c =
    seat_in c.args.seats.now.items c.args.k c.index_mut.result.now c.index_mut.result.now (seat_lt c.args.seats.now.items c.args.k c.requires.0 c.requires.1) c.index_mut.ensures.value
    ∙ (sym c.take.ensures.value ∙ c.in-Some.is)
