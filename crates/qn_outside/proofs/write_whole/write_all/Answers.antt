use Rattle.std.proofs.Common.{arith, length-drop}
use Rattle.std.proofs.lemmas.List.{take_rest}
use Rattle.qn_outside.proofs.Known.{Appends-take}
use Rattle.qn_outside.proofs.write_whole.write_all.Goals as goal

pub loop-written-preserved : goal.loop-written-preserved
loop-written-preserved g c =
    let rest = take_rest c.args.piece.now c.loop-written.written in
    let bytes = rw rest at c.in-Ok.ensures.bytes in
    record {
      within = omega (arith, simp (rest, length-drop) at c.in-Ok.ensures.bound);
      taken = Appends-take (g.O.Sink.held c.args.out.now) (g.O.Sink.held c.loop-written.out) (g.O.Sink.held c.write.new.self) c.loop-written.written c.in-Ok.n c.args.piece.now
          c.loop-written.invariant.taken bytes;
      count = omega (arith, c.write.ensures.count);
    }
