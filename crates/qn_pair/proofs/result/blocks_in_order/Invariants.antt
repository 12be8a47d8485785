use Rattle.std.proofs.Common.{◌≡◌, ◌++◌}
use Rattle.std.specs.Prelude.{option_to_list}
use Rattle.std.specs.List.{flat_map}
use Rattle.std.specs.Vec.Iter.{into_iter_items}
use Rattle.qn_pair.specs.Workers.{kept_blocks}
use Rattle.qn_pair.proofs.result.blocks_in_order.Given as goal

abbrev pub invariant-loop-slot : goal.invariant-loop-slot
invariant-loop-slot g l = l.blocks.items ++ flat_map option_to_list (into_iter_items l.slot-iterator) ≡ kept_blocks l.job
