use Rattle.std.proofs.Common.{rules, arith, ◌≡◌, ◌∙◌, ◌≤◌, ◌+◌, ◌^◌, ◌++◌, ◌∷◌, [], ap, sym, subst, length, get_or, List}
use Rattle.std.proofs.lemmas.List.{get_or_default}
use Rattle.qn_index.specs.Tuples.{IsTuple, net}
use Rattle.qn_index.specs.Places.{block_size}
use Rattle.qn_value.specs.Tensors.{BlockValue, IsBlock, no_block}
use Rattle.qn_block.specs.Refusals.{block_at}
use Rattle.qn_block.proofs.Written.{IsFilled, filled_more}
use Rattle.qn_unmet.specs.Unmet.{is_met}
use Rattle.qn_block.proofs.Partition.{size_more, size_take}
use Rattle.qn_lazy.proofs.Listed.{met_at, ascend, answered}
use Rattle.qn_lazy.proofs.asking.asked_blocks.Goals as goal

pub asked_block-requires : goal.asked_block-requires
asked_block-requires g c =
    let r = c.args.rule.now in
    let t = c.tuple-item.result in
    let a = met_at r.group r.legs r.flux (is_met c.args.shared.now c.args.others.now) c.args.tuples.now c.loop-tuple.tuple-index t c.requires.shape c.requires.tuples c.loop-tuple-test.true c.tuple-item.is in
    let tuple : IsTuple r.legs t = a.admissible.tuple in
    let small : block_size r.legs t ≤ 2 ^ 22 = a.small in
    search (rules, tuple, small)

pub loop-tuple-preserved : goal.loop-tuple-preserved
loop-tuple-preserved g c =
    let r = c.args.rule.now in
    let ts = c.args.tuples.now in
    let i = c.loop-tuple.tuple-index in
    let t = c.tuple-item.result in
    let a = met_at r.group r.legs r.flux (is_met c.args.shared.now c.args.others.now) ts i t c.requires.shape c.requires.tuples c.loop-tuple-test.true c.tuple-item.is in
    let b = c.in_ok-asked_block.field-0 in
    let tuple : b.tuple ≡ t = c.in_ok-asked_block.ensures.tuple in
    let block : IsBlock r.group r.legs r.flux b = record {
      tuple = subst (IsTuple r.legs) (sym tuple) a.admissible.tuple;
      flux = ap (net r.group r.legs) tuple ∙ a.admissible.flux;
      full = c.in_ok-asked_block.ensures.full ∙ ap (block_size r.legs) (sym tuple);
      small = omega (arith, a.small, ap (block_size r.legs) tuple);
    } in
    let new : IsFilled (g.F.EntryFunction.answers r.function) r.group r.legs r.flux t b = record { tuple = tuple; block = block; answers = c.in_ok-asked_block.ensures.answers } in
    let pushed : c.push.new.self.items ≡ c.loop-tuple.blocks.items ++ b ∷ [] = search rules in
    record {
      count = search (rules, c.loop-tuple.invariant.count, pushed);
      filled = λ k lt. subst (λ (bs : List BlockValue). IsFilled (g.F.EntryFunction.answers r.function) r.group r.legs r.flux (get_or ts k []) (block_at bs k)) (sym pushed)
          (filled_more (g.F.EntryFunction.answers r.function) r.group r.legs r.flux ts c.loop-tuple.blocks.items b i t c.loop-tuple.invariant.count c.loop-tuple-test.true c.tuple-item.is c.loop-tuple.invariant.filled new k lt);
      asks = omega (arith, c.loop-tuple.invariant.asks, c.in_ok-asked_block.ensures.asks, size_more r.legs ts i t c.loop-tuple-test.true c.tuple-item.is);
    }

pub returns-in_err-asked_block-clause-asks : goal.returns-in_err-asked_block-clause-asks
returns-in_err-asked_block-clause-asks g c =
    omega (arith, c.loop-tuple.invariant.asks, c.asked_block.ensures.asks, size_more c.args.rule.now.legs c.args.tuples.now c.loop-tuple.tuple-index c.tuple-item.result c.loop-tuple-test.true c.tuple-item.is, size_take c.args.rule.now.legs c.args.tuples.now (c.loop-tuple.tuple-index + 1))

pub returns-in_err-push-clause-asks : goal.returns-in_err-push-clause-asks
returns-in_err-push-clause-asks g c =
    omega (arith, c.loop-tuple.invariant.asks, c.asked_block.ensures.asks, size_more c.args.rule.now.legs c.args.tuples.now c.loop-tuple.tuple-index c.tuple-item.result c.loop-tuple-test.true c.tuple-item.is, size_take c.args.rule.now.legs c.args.tuples.now (c.loop-tuple.tuple-index + 1))

pub returns-clause-blocks : goal.returns-clause-blocks
returns-clause-blocks g c = λ k d lt. subst (IsBlock c.args.rule.now.group c.args.rule.now.legs c.args.rule.now.flux) (get_or_default c.loop-tuple.blocks.items k no_block d lt) (c.loop-tuple.invariant.filled k (omega (arith, c.loop-tuple.invariant.count))).block

pub returns-clause-ascending : goal.returns-clause-ascending
returns-clause-ascending g c =
    let r = c.args.rule.now in
    let long : length c.args.tuples.now ≡ length c.loop-tuple.blocks.items = omega (arith, c.loop-tuple.invariant.count) in
    ascend (g.F.EntryFunction.answers r.function) r.group r.legs r.flux (is_met c.args.shared.now c.args.others.now) c.args.tuples.now c.loop-tuple.blocks.items c.requires.tuples long (λ k lt. c.loop-tuple.invariant.filled k (omega (arith, c.loop-tuple.invariant.count)))

pub returns-clause-answers : goal.returns-clause-answers
returns-clause-answers g c = λ xs m met.
    let r = c.args.rule.now in
    let long : length c.args.tuples.now ≡ length c.loop-tuple.blocks.items = omega (arith, c.loop-tuple.invariant.count) in
    answered (g.F.EntryFunction.answers r.function) r.group r.legs r.flux (is_met c.args.shared.now c.args.others.now) c.args.tuples.now c.loop-tuple.blocks.items xs c.requires.tuples long (λ k lt. c.loop-tuple.invariant.filled k (omega (arith, c.loop-tuple.invariant.count))) m met

pub returns-clause-asks : goal.returns-clause-asks
returns-clause-asks g c = omega (arith, c.loop-tuple.invariant.asks, size_take c.args.rule.now.legs c.args.tuples.now c.loop-tuple.tuple-index)
