use Rattle.std.proofs.Common.{◌≡◌, ◌≤◌, ◌<◌, ◌*◌, ◌^◌, ℕ, length, get_or}
use Rattle.std.specs.List.{All}
use Rattle.qn_strides.specs.Strides.{start_of}
use Rattle.qn_kernel.proofs.layout.starts_of.Given as goal

abbrev pub invariant-loop-i : goal.invariant-loop-i
invariant-loop-i l = record {
  long : length l.starts.items ≡ l.i;
  places : (k : ℕ) → k < l.i → get_or l.starts.items k 0 ≡ start_of l.kept (k * l.by);
  small : All (λ p. p ≤ 2 ^ 60) l.starts.items;
}
