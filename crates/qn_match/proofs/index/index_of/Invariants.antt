use Rattle.std.proofs.Common.{◌≡◌, ℕ, List, filter}
use Rattle.std.specs.Prelude.{nat_eq}
use Rattle.std.specs.Cmp.Lexicographic.{pointwise}
use Rattle.qn_sign.specs.Positions.{positions}
use Rattle.qn_block.specs.Refusals.{block_at}
use Rattle.qn_match.specs.Keys.{digits_of}
use Rattle.qn_match.specs.Index.{positions_of}
use Rattle.qn_match.proofs.index.index_of.Given as goal

abbrev pub invariant-loop-j : goal.invariant-loop-j
invariant-loop-j l = (key : List ℕ) → positions_of l.index key ≡ filter (λ j. pointwise nat_eq key (digits_of l.places (block_at l.blocks j).tuple)) (positions l.j)
