use Rattle.std.proofs.Common.{◌≡◌, ◌++◌}
use Rattle.std.specs.Prelude.{option_to_list}
use Rattle.std.specs.List.{flat_map}
use Rattle.std.specs.Vec.Iter.{into_iter_items}
use Rattle.qn_pair.proofs.Placing.{kept_are}
use Rattle.qn_pair.proofs.result.blocks_in_order.Goals as goal

pub loop-slot-init : goal.loop-slot-init
loop-slot-init g c =
    let start : into_iter_items c.into_iter-slot-iterator.result ≡ c.in_ok-row.row.items = c.into_iter-slot-iterator.ensures.into_iter_gives.0 in
    kept_are c.args.job.now c.in_ok-row.row.items (c.new-blocks.result.items ++ flat_map option_to_list (into_iter_items c.into_iter-slot-iterator.result)) c.in_ok-row.ensures
    (λ i. c.new-blocks.ensures.items i ++ flat_map option_to_list (start i))
