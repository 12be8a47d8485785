use Rattle.std.proofs.Common.{◌≡◌, ◌<◌, ℕ, length}
use Rattle.qn_block.specs.Blocked.{IsConjugateBlock}
use Rattle.qn_block.specs.Refusals.{block_at}
use Rattle.qn_block.proofs.conjugate.conjugate_blocks.Given as goal

abbrev pub invariant-loop-block : goal.invariant-loop-block
invariant-loop-block g l = record {
  count : length l.conjugates.items ≡ l.block-index;
  blocks : (k : ℕ) → k < l.block-index → IsConjugateBlock l.legs (block_at l.blocks k) (block_at l.conjugates.items k);
}
