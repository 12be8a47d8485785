use Rattle.std.proofs.Common.{◌≡◌, ◌≤◌, List, ℕ, ◌++◌, drop, false}
use Rattle.std.specs.Io.KnownBytes.{Appends}
use Rattle.qn_cli.specs.Lines.{numbers_after}
use Rattle.qn_cli.proofs.tell.write_numbers.Given as goal

abbrev pub invariant-loop-n : goal.invariant-loop-n
invariant-loop-n g l = record {
  so_far : (done : List ℕ) × Appends (g.E.Sink.held l.initial.err) (g.E.Sink.held l.err) done × (done ++ numbers_after l.later (drop l.n-index l.numbers) ≡ numbers_after false l.numbers);
  count : g.E.Sink.faults l.initial.err ≤ g.E.Sink.faults l.err;
}
