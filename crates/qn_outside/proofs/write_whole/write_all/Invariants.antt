use Rattle.std.proofs.Common.{◌≤◌, ◌-◌, length, take}
use Rattle.std.specs.Io.KnownBytes.{Appends}
use Rattle.qn_outside.proofs.write_whole.write_all.Given as goal

-- the first bytes of the piece were taken
abbrev pub invariant-loop-written : goal.invariant-loop-written
invariant-loop-written g l = record {
  within : l.written ≤ length l.piece;
  taken : Appends (g.O.Sink.held l.initial.out) (g.O.Sink.held l.out) (take l.written l.piece);
  count : g.O.Sink.faults l.initial.out ≤ g.O.Sink.faults l.out;
}

abbrev pub decreases-loop-written : goal.decreases-loop-written
decreases-loop-written g l = length l.piece - l.written
