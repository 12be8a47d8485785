use Rattle.std.proofs.Common.{rules}
use Rattle.std.specs.Cmp.Lexicographic.{slice_cmp}
use Rattle.std.specs.Ordering.{nat_cmp}
use Rattle.std.proofs.lemmas.Fn.{always_returns_same}
use Rattle.qn_value.specs.Tensors.{BlockValue}
use Rattle.qn_block.proofs.Lookup.{looked_up}
use Rattle.qn_block.proofs.entry.find.Goals as goal

pub returns-in-Ok : goal.returns-in-Ok
returns-in-Ok c =
    let facts = c.binary_search_by.ensures in
    let ordered = facts.position (λ (b : BlockValue). slice_cmp nat_cmp b.tuple c.args.tuple.now) (always_returns_same _ _ _ (λ a r g called. search rules)) in
    let found = looked_up c.args.blocks.now c.args.tuple.now c.binary_search_by.result c.requires facts.bound ordered in
    rw c.in-Ok.is at found

pub returns-in-Err : goal.returns-in-Err
returns-in-Err c =
    let facts = c.binary_search_by.ensures in
    let ordered = facts.position (λ (b : BlockValue). slice_cmp nat_cmp b.tuple c.args.tuple.now) (always_returns_same _ _ _ (λ a r g called. search rules)) in
    let found = looked_up c.args.blocks.now c.args.tuple.now c.binary_search_by.result c.requires facts.bound ordered in
    rw c.in-Err.is at found
