use Rattle.std.proofs.Common.{◌≡◌, ◌≤◌, List, ℕ, ◌++◌, drop}
use Rattle.std.specs.Io.KnownBytes.{Appends}
use Rattle.qn_cli.specs.Lines.{joined}
use Rattle.qn_cli.proofs.tell.write_pieces.Given as goal

abbrev pub invariant-loop-piece : goal.invariant-loop-piece
invariant-loop-piece g l = record {
  so_far : (done : List ℕ) × Appends (g.E.Sink.held l.initial.err) (g.E.Sink.held l.err) done × (done ++ joined (drop l.piece-index l.pieces) ≡ joined l.pieces);
  count : g.E.Sink.faults l.initial.err ≤ g.E.Sink.faults l.err;
}
