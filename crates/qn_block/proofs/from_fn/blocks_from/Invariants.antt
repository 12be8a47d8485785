use Rattle.std.proofs.Common.{◌≡◌, ℕ, ◌<◌, length, get_or, []}
use Rattle.std.specs.Fn.{FnReturnsAt}
use Rattle.qn_block.specs.Refusals.{block_at}
use Rattle.qn_block.proofs.Written.{IsFilled}
use Rattle.qn_block.proofs.from_fn.blocks_from.Given as goal

abbrev pub invariant-loop-tuple : goal.invariant-loop-tuple
invariant-loop-tuple g l = record {
  count : length l.blocks.items ≡ l.tuple-index;
  filled : (k : ℕ) → k < l.tuple-index → IsFilled (FnReturnsAt g.F.Fn l.f) l.group l.legs l.flux (get_or l.tuple-items k []) (block_at l.blocks.items k);
}
