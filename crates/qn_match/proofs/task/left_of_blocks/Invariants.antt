use Rattle.std.proofs.Common.{◌≡◌, map, take}
use Rattle.qn_value.specs.Tensors.{BlockValue}
use Rattle.qn_match.specs.Pairs.{unmarked}
use Rattle.qn_match.proofs.task.left_of_blocks.Given as goal

abbrev pub invariant-loop-block : goal.invariant-loop-block
invariant-loop-block l = l.lefts.items ≡ map (λ (b : BlockValue). unmarked l.marks b.tuple) (take l.block-index l.blocks)
