use Rattle.std.proofs.Common.{◌≡◌, ◌∙◌, ◌<◌, length, List, get_or, subst, ℕ}
use Rattle.qn_index.specs.Tuples.{admitted}
use Rattle.qn_block.proofs.Written.{listed_at}
use Rattle.qn_gen.proofs.Draws.{drawn_more}
use Rattle.qn_gen.proofs.tensor.blocks.Goals as goal

pub block-requires-clause-tuple : goal.block-requires-clause-tuple
block-requires-clause-tuple c =
    (listed_at c.args.group.now c.args.legs.now c.args.flux.now c.deref-tuple-items.result.now c.loop-tuple.tuple-index c.tuple-item.result c.requires.shape (c.deref-tuple-items.ensures.value ∙ c.in_ok-tuples.ensures) c.loop-tuple-test.true c.tuple-item.is).admissible.tuple

pub block-requires-clause-small : goal.block-requires-clause-small
block-requires-clause-small c =
    (listed_at c.args.group.now c.args.legs.now c.args.flux.now c.deref-tuple-items.result.now c.loop-tuple.tuple-index c.tuple-item.result c.requires.shape (c.deref-tuple-items.ensures.value ∙ c.in_ok-tuples.ensures) c.loop-tuple-test.true c.tuple-item.is).small

pub loop-tuple-preserved : goal.loop-tuple-preserved
loop-tuple-preserved c =
    let ts = admitted c.args.group.now c.args.legs.now c.args.flux.now in
    let all : c.deref-tuple-items.result.now ≡ ts = c.deref-tuple-items.ensures.value ∙ c.in_ok-tuples.ensures in
    let within : c.loop-tuple.tuple-index < length ts = subst (λ (us : List (List ℕ)). c.loop-tuple.tuple-index < length us) all c.loop-tuple-test.true in
    let is : c.tuple-item.result ≡ get_or ts c.loop-tuple.tuple-index c.tuple-item.result = subst (λ (us : List (List ℕ)). c.tuple-item.result ≡ get_or us c.loop-tuple.tuple-index c.tuple-item.result) all c.tuple-item.is in
    drawn_more c.args.draws.now.x c.args.legs.now ts c.loop-tuple.tuple-index c.loop-tuple.draws.x c.block.new.draws.x c.loop-tuple.blocks.items c.push.new.self.items c.tuple-item.result c.in_ok-block.field-0 c.loop-tuple.invariant within is c.in_ok-block.ensures.block c.in_ok-block.ensures.state c.in_ok-push.ensures.items
