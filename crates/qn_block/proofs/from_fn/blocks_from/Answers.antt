use Rattle.std.proofs.Common.{Contains, rules, arith, ◌≡◌, ◌∙◌, ◌++◌, ◌∷◌, [], ap, sym, subst, length, lit<, get_or, ℕ, List}
use Rattle.std.specs.Fn.{FnReturnsAt}
use Rattle.std.specs.List.{AllPairs}
use Rattle.std.proofs.lemmas.List.{get_or_default}
use Rattle.qn_index.specs.Tuples.{IsTuple, net, admitted}
use Rattle.qn_index.specs.Places.{sectors_at, block_size}
use Rattle.qn_index.proofs.Places.{forth}
use Rattle.qn_index.proofs.Admitted.{listed}
use Rattle.qn_value.specs.Tensors.{BlockValue, IsBlock, no_block}
use Rattle.qn_block.specs.Blocked.{MeetFlux}
use Rattle.qn_block.specs.Refusals.{block_at}
use Rattle.qn_block.proofs.Written.{IsFilled, Under, listed_at, meets_at, admitted_pairs, filled_more, filled_ascend, filled_answer}
use Rattle.qn_block.proofs.from_fn.blocks_from.Goals as goal

pub block_of-requires : goal.block_of-requires
block_of-requires g c =
    let fs = c.args.group.now in
    let ls = c.args.legs.now in
    let q = c.args.flux.now in
    let t = c.tuple-item.result in
    let all : c.deref-tuple-items.result.now ≡ admitted fs ls q = c.deref-tuple-items.ensures.value ∙ c.in_ok-tuples.ensures in
    let a = listed_at fs ls q c.deref-tuple-items.result.now c.loop-tuple.tuple-index t c.requires.shape all c.loop-tuple-test.true c.tuple-item.is in
    (lit< tt, (a.admissible.tuple, (a.small, λ x o lt e. c.requires.callable x (subst (MeetFlux fs ls q) (sym e) (meets_at fs ls q t o a.admissible.tuple a.admissible.flux lt)))))

pub loop-tuple-preserved : goal.loop-tuple-preserved
loop-tuple-preserved g c =
    let fs = c.args.group.now in
    let ls = c.args.legs.now in
    let q = c.args.flux.now in
    let t = c.tuple-item.result in
    let all : c.deref-tuple-items.result.now ≡ admitted fs ls q = c.deref-tuple-items.ensures.value ∙ c.in_ok-tuples.ensures in
    let a = listed_at fs ls q c.deref-tuple-items.result.now c.loop-tuple.tuple-index t c.requires.shape all c.loop-tuple-test.true c.tuple-item.is in
    let b = c.in_ok-block_of.field-0 in
    let tuple : b.tuple ≡ t = c.in_ok-block_of.ensures.tuple in
    let block : IsBlock fs ls q b = record {
      tuple = subst (IsTuple ls) (sym tuple) a.admissible.tuple;
      flux = ap (net fs ls) tuple ∙ a.admissible.flux;
      full = c.in_ok-block_of.ensures.full ∙ ap (block_size ls) (sym tuple);
      small = omega (arith, a.small, ap (block_size ls) tuple);
    } in
    let new : IsFilled (FnReturnsAt g.F.Fn c.args.f.now) fs ls q t b = record { tuple = tuple; block = block; answers = c.in_ok-block_of.ensures.answers } in
    let pushed : c.push.new.self.items ≡ c.loop-tuple.blocks.items ++ b ∷ [] = search rules in
    record {
      count = search (rules, c.loop-tuple.invariant.count, pushed);
      filled = λ k lt. subst (λ (bs : List BlockValue). IsFilled (FnReturnsAt g.F.Fn c.args.f.now) fs ls q (get_or c.deref-tuple-items.result.now k []) (block_at bs k)) (sym pushed) (filled_more (FnReturnsAt g.F.Fn c.args.f.now) fs ls q c.deref-tuple-items.result.now c.loop-tuple.blocks.items b c.loop-tuple.tuple-index t c.loop-tuple.invariant.count c.loop-tuple-test.true c.tuple-item.is c.loop-tuple.invariant.filled new k lt);
    }

pub returns-clause-blocks : goal.returns-clause-blocks
returns-clause-blocks g c = λ k d lt. subst (IsBlock c.args.group.now c.args.legs.now c.args.flux.now) (get_or_default c.loop-tuple.blocks.items k no_block d lt) (c.loop-tuple.invariant.filled k (omega (arith, c.loop-tuple.invariant.count))).block

pub returns-clause-ascending : goal.returns-clause-ascending
returns-clause-ascending g c =
    let fs = c.args.group.now in
    let ls = c.args.legs.now in
    let q = c.args.flux.now in
    let all : c.deref-tuple-items.result.now ≡ admitted fs ls q = c.deref-tuple-items.ensures.value ∙ c.in_ok-tuples.ensures in
    let long : length c.deref-tuple-items.result.now ≡ length c.loop-tuple.blocks.items = omega (arith, c.loop-tuple.invariant.count) in
    filled_ascend (FnReturnsAt g.F.Fn c.args.f.now) fs ls q c.deref-tuple-items.result.now c.loop-tuple.blocks.items long (subst (λ (ts : List (List ℕ)). AllPairs Under ts) (sym all) (admitted_pairs fs ls q)) (λ k lt. c.loop-tuple.invariant.filled k (omega (arith, c.loop-tuple.invariant.count)))

pub returns-clause-answers : goal.returns-clause-answers
returns-clause-answers g c = λ xs m.
    let fs = c.args.group.now in
    let ls = c.args.legs.now in
    let q = c.args.flux.now in
    let all : c.deref-tuple-items.result.now ≡ admitted fs ls q = c.deref-tuple-items.ensures.value ∙ c.in_ok-tuples.ensures in
    let long : length c.deref-tuple-items.result.now ≡ length c.loop-tuple.blocks.items = omega (arith, c.loop-tuple.invariant.count) in
    let w = forth ls xs m.range in
    filled_answer (FnReturnsAt g.F.Fn c.args.f.now) fs ls q c.deref-tuple-items.result.now c.loop-tuple.blocks.items xs long (returns-clause-ascending g c) (λ k lt. c.loop-tuple.invariant.filled k (omega (arith, c.loop-tuple.invariant.count))) m.range
    (subst (λ (ts : List (List ℕ)). Contains ts (sectors_at ls xs)) (sym all) (listed fs ls q (sectors_at ls xs) (record { tuple = w.tuple; flux = m.flux })))
