use Rattle.std.proofs.Common.{◌≡◌, ℕ, ◌<◌, length, get_or, []}
use Rattle.qn_block.specs.Blocked.{tensor_of}
use Rattle.qn_block.specs.Refusals.{block_at}
use Rattle.qn_block.proofs.Written.{IsFilled}
use Rattle.qn_fuse.specs.Pieces.{IsSplitEntry}
use Rattle.qn_fuse.proofs.splitting.split_blocks.Given as goal

abbrev pub invariant-loop-tuple : goal.invariant-loop-tuple
invariant-loop-tuple g l = record {
  count : length l.blocks.items ≡ l.tuple-index;
  filled : (k : ℕ) → k < l.tuple-index → IsFilled (IsSplitEntry l.c l.at (tensor_of l.t)) l.t.group l.legs l.t.flux (get_or l.tuple-items k []) (block_at l.blocks.items k);
}
