use Rattle.std.proofs.Common.{◌*◌, length}
use Rattle.std.specs.List.{sum_by}
use Rattle.qn_block.specs.Refusals.{block_at}
use Rattle.qn_match.specs.Shares.{shared_size}
use Rattle.qn_pair.proofs.Products.{IsSummed}
use Rattle.qn_pair.proofs.frame.products_of.Given as goal

abbrev pub invariant-loop-rest : goal.invariant-loop-rest
invariant-loop-rest g l =
    IsSummed (λ p. l.size * shared_size l.shared l.legs (block_at l.blocks p.0).tuple) (length l.blocks) (sum_by (λ p. l.size * shared_size l.shared l.legs (block_at l.blocks p.0).tuple) l.pairs) l.rest l.products

abbrev pub decreases-loop-rest : goal.decreases-loop-rest
decreases-loop-rest g l = length l.rest
