use Rattle.std.proofs.Common.{◌∙◌, ap}
use Rattle.qn_permute.specs.Moved.{moved_block}
use Rattle.qn_permute.proofs.Shared.{collected}
use Rattle.qn_permute.proofs.tensor.moved_blocks.Goals as goal

pub returns : goal.returns
returns g c =
    let got = c.in_ok-collect.ensures in
    let chain = rw (c.map.ensures.base, c.map.ensures.f) at got.1 in
    let slice = ap (λ it. it.slice.now) c.with_min_len.ensures.base ∙ c.par_iter.ensures in
    let f = moved_block c.args.group.now c.args.legs.now c.args.order.now in
    collected f c.args.blocks.now chain.0 got.0 c.in_ok-collect.field-0 (chain.1 ∙ slice) chain.2 got.2
