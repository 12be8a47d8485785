use Rattle.std.proofs.Common.{◌≡◌, ◌<◌, ◌*◌, ◌∙◌, ap, ℕ, refl, get_or, length}
use Rattle.std.specs.List.{sum_by}
use Rattle.std.proofs.lemmas.List.{get_or_default}
use Rattle.qn_value.specs.Tensors.{BlockValue, no_block}
use Rattle.qn_block.specs.Refusals.{block_at}
use Rattle.qn_match.specs.Shares.{shared_size}
use Rattle.qn_pair.proofs.Products.{summed_step}
use Rattle.qn_pair.proofs.frame.products_of.Goals as goal

pub loop-rest-preserved : goal.loop-rest-preserved
loop-rest-preserved g c =
    let f : ℕ × ℕ → ℕ = λ p. c.args.size * shared_size c.args.shared.now c.args.legs.now (block_at c.args.blocks.now p.0).tuple in
    let p : ℕ × ℕ = get_or c.loop-rest.rest.now 0 (0, 0) in
    let lt : p.0 < length c.args.blocks.now = c.loop-rest.invariant.there 0 (0, 0) c.in-len1-up.len_at_least in
    let at : c.index-blocks-pair.result ≡ block_at c.args.blocks.now p.0 = c.index-blocks-pair.is ∙ get_or_default c.args.blocks.now p.0 c.index-blocks-pair.result no_block lt in
    let one : c.values_times-products.result ≡ f p = c.values_times-products.ensures ∙ ap (λ t. c.args.size * shared_size c.args.shared.now c.args.legs.now t) (c.tuple.ensures ∙ ap (λ (b : BlockValue). b.tuple) at) in
    summed_step f (length c.args.blocks.now) (sum_by f c.args.pairs.now) c.loop-rest.rest.now c.loop-rest.products c.values_times-products.result _ c.in-len1-up.len_at_least c.loop-rest.invariant one refl
