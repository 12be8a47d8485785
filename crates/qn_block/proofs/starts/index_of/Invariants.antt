use Rattle.std.proofs.Common.{◌≡◌, ◌<◌, length, get_or, ℕ}
use Rattle.qn_index.specs.Tuples.{count}
use Rattle.qn_index.proofs.Shapes.{rank}
use Rattle.qn_block.specs.Combiners.{start_at}
use Rattle.qn_block.proofs.starts.index_of.Given as goal

abbrev pub invariant-loop-i : goal.invariant-loop-i
invariant-loop-i g l = record {
  long : length l.index.items ≡ count l.legs;
  starts : (j : ℕ) → j < l.i → get_or l.index.items (rank l.legs (start_at l.starts j).tuple) 0 ≡ (start_at l.starts j).start;
}
