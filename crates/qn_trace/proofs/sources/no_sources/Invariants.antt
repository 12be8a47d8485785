use Rattle.std.proofs.Common.{◌≡◌, ℕ, length, get_or, []}
use Rattle.qn_trace.proofs.sources.no_sources.Given as goal

abbrev pub invariant-loop : goal.invariant-loop
invariant-loop l = record {
  long : length l.gathered.items ≡ l.counter;
  empty : (k : ℕ) → get_or l.gathered.items k [] ≡ [];
}
