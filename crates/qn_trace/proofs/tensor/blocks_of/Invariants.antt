use Rattle.std.proofs.Common.{◌≡◌, ℕ, ◌<◌, length, get_or, drop, []}
use Rattle.qn_value.specs.Magnitudes.{first_passing, trace_magnitude}
use Rattle.qn_block.specs.Blocked.{tensor_of}
use Rattle.qn_block.specs.Refusals.{block_at}
use Rattle.qn_block.proofs.Written.{IsFilled}
use Rattle.qn_trace.proofs.Blocks.{Answers}
use Rattle.qn_trace.proofs.tensor.blocks_of.Given as goal

abbrev pub invariant-loop-number : goal.invariant-loop-number
invariant-loop-number g l = record {
  count : length l.blocks.items ≡ l.number;
  filled : (k : ℕ) → k < l.number → IsFilled (Answers l.t l.couples) l.t.group l.left l.t.flux (get_or l.tuples.items k []) (block_at l.blocks.items k);
  clear : first_passing (trace_magnitude (tensor_of l.t) l.couples) l.left l.tuples.items ≡ first_passing (trace_magnitude (tensor_of l.t) l.couples) l.left (drop l.number l.tuples.items);
}
