use Rattle.std.proofs.Common.{arith, ◌≡◌, ◌∙◌, ◌<◌, ◌++◌, ◌∷◌, [], cond, length, ap}
use Rattle.std.specs.Prelude.{nat_eq}
use Rattle.std.specs.Cmp.Lexicographic.{pointwise}
use Rattle.std.proofs.lemmas.List.{get_or_default}
use Rattle.qn_value.specs.Tensors.{BlockValue, no_block}
use Rattle.qn_block.specs.Refusals.{block_at}
use Rattle.qn_match.specs.Index.{positions_of}
use Rattle.qn_match.specs.Keys.{digits_of}
use Rattle.qn_match.proofs.Indexing.{kept_more}
use Rattle.qn_match.proofs.index.index_of.Goals as goal

pub loop-j-preserved : goal.loop-j-preserved
loop-j-preserved c = λ key.
    let bs = c.args.blocks.now in
    let j = c.loop-j.j in
    let lt : j < length bs = omega arith in
    let tuple : c.as_slice.result.now ≡ (block_at bs j).tuple = c.as_slice.ensures ∙ ap (λ (b : BlockValue). b.tuple) (c.block.view_is ∙ (c.index-blocks-j.is ∙ get_or_default bs j c.index-blocks-j.result no_block lt)) in
    let sectors : c.in_ok-key.key.items ≡ digits_of c.args.places.now (block_at bs j).tuple = c.in_ok-key.ensures ∙ ap (digits_of c.args.places.now) tuple in
    kept_more (λ k. pointwise nat_eq key (digits_of c.args.places.now (block_at bs k).tuple)) j (positions_of c.loop-j.index key) _ (c.loop-j.invariant key)
    (c.in_ok-add_position.ensures key ∙ ap (λ ks. positions_of c.loop-j.index key ++ cond (pointwise nat_eq key ks) (j ∷ []) []) sectors)
