use Rattle.std.proofs.Common.{Contains, rules, arith, ◌≡◌, ◌≤◌, ◌∙◌, ◌++◌, ◌∷◌, [], sym, subst, length, lit<, get_or, ℕ, List}
use Rattle.std.specs.List.{AllPairs}
use Rattle.std.proofs.lemmas.List.{get_or_default}
use Rattle.qn_index.specs.Legs.{LegValue}
use Rattle.qn_index.specs.Tuples.{IsTuple, net, admitted}
use Rattle.qn_index.specs.Places.{sectors_at, block_size}
use Rattle.qn_index.proofs.Places.{forth}
use Rattle.qn_index.proofs.Admitted.{listed}
use Rattle.qn_value.specs.Tensors.{BlockValue, IsBlock, no_block}
use Rattle.qn_block.specs.Blocked.{tensor_of}
use Rattle.qn_block.specs.Refusals.{block_at}
use Rattle.qn_block.proofs.Written.{IsFilled, Under, listed_at, admitted_pairs, filled_more, filled_ascend, filled_answer}
use Rattle.qn_fuse.specs.Pieces.{IsSplitEntry}
use Rattle.qn_fuse.proofs.Parts.{block_filled}
use Rattle.qn_fuse.proofs.splitting.split_blocks.Goals as goal

pub split_block-requires : goal.split_block-requires
split_block-requires g c =
    let t = c.args.t.now in
    let u = c.tuple-item.result in
    let all : c.deref-tuple-items.result.now ≡ admitted t.group c.args.legs.now t.flux = c.deref-tuple-items.ensures.value ∙ c.in_ok-tuples.ensures in
    let a = listed_at t.group c.args.legs.now t.flux c.deref-tuple-items.result.now c.loop-tuple.tuple-index u c.requires.shape all c.loop-tuple-test.true c.tuple-item.is in (
      lit< tt,
      (
        lit< tt,
        (
          c.requires.group,
          (
            c.requires.place,
            (
              subst (λ (ls : List LegValue). IsTuple ls u) c.requires.legs a.admissible.tuple,
              (subst (λ (ls : List LegValue). net t.group ls u ≡ t.flux) c.requires.legs a.admissible.flux, subst (λ (ls : List LegValue). block_size ls u ≤ 4194304) c.requires.legs a.small),
            ),
          ),
        ),
      ),
    )

pub loop-tuple-preserved : goal.loop-tuple-preserved
loop-tuple-preserved g c =
    let t = c.args.t.now in
    let ls = c.args.legs.now in
    let R = IsSplitEntry c.args.c.now c.args.at (tensor_of t) in
    let u = c.tuple-item.result in
    let all : c.deref-tuple-items.result.now ≡ admitted t.group ls t.flux = c.deref-tuple-items.ensures.value ∙ c.in_ok-tuples.ensures in
    let a = listed_at t.group ls t.flux c.deref-tuple-items.result.now c.loop-tuple.tuple-index u c.requires.shape all c.loop-tuple-test.true c.tuple-item.is in
    let b = c.in_ok-split_block.field-0 in
    let e = c.in_ok-split_block.ensures in
    let new : IsFilled R t.group ls t.flux u b = block_filled R t.group ls _ t.flux u b c.requires.legs a e.tuple e.full e.entries in
    let pushed : c.push.new.self.items ≡ c.loop-tuple.blocks.items ++ b ∷ [] = search rules in
    record {
      count = search (rules, c.loop-tuple.invariant.count, pushed);
      filled = λ k lt. subst (λ (bs : List BlockValue). IsFilled R t.group ls t.flux (get_or c.deref-tuple-items.result.now k []) (block_at bs k)) (sym pushed)
          (filled_more R t.group ls t.flux c.deref-tuple-items.result.now c.loop-tuple.blocks.items b c.loop-tuple.tuple-index u c.loop-tuple.invariant.count c.loop-tuple-test.true c.tuple-item.is c.loop-tuple.invariant.filled new k lt);
    }

pub returns-clause-blocks : goal.returns-clause-blocks
returns-clause-blocks g c = λ k d lt. subst (IsBlock c.args.t.now.group c.args.legs.now c.args.t.now.flux) (get_or_default c.loop-tuple.blocks.items k no_block d lt) (c.loop-tuple.invariant.filled k (omega (arith, c.loop-tuple.invariant.count))).block

pub returns-clause-ascending : goal.returns-clause-ascending
returns-clause-ascending g c =
    let t = c.args.t.now in
    let all : c.deref-tuple-items.result.now ≡ admitted t.group c.args.legs.now t.flux = c.deref-tuple-items.ensures.value ∙ c.in_ok-tuples.ensures in
    let long : length c.deref-tuple-items.result.now ≡ length c.loop-tuple.blocks.items = omega (arith, c.loop-tuple.invariant.count) in
    filled_ascend (IsSplitEntry c.args.c.now c.args.at (tensor_of t)) t.group c.args.legs.now t.flux c.deref-tuple-items.result.now c.loop-tuple.blocks.items long
    (subst (λ (ts : List (List ℕ)). AllPairs Under ts) (sym all) (admitted_pairs t.group c.args.legs.now t.flux)) (λ k lt. c.loop-tuple.invariant.filled k (omega (arith, c.loop-tuple.invariant.count)))

pub returns-clause-entries : goal.returns-clause-entries
returns-clause-entries g c = λ xs m.
    let t = c.args.t.now in
    let ls = c.args.legs.now in
    let all : c.deref-tuple-items.result.now ≡ admitted t.group ls t.flux = c.deref-tuple-items.ensures.value ∙ c.in_ok-tuples.ensures in
    let long : length c.deref-tuple-items.result.now ≡ length c.loop-tuple.blocks.items = omega (arith, c.loop-tuple.invariant.count) in
    let w = forth ls xs m.range in
    filled_answer (IsSplitEntry c.args.c.now c.args.at (tensor_of t)) t.group ls t.flux c.deref-tuple-items.result.now c.loop-tuple.blocks.items xs long (returns-clause-ascending g c)
    (λ k lt. c.loop-tuple.invariant.filled k (omega (arith, c.loop-tuple.invariant.count))) m.range
    (subst (λ (ts : List (List ℕ)). Contains ts (sectors_at ls xs)) (sym all) (listed t.group ls t.flux (sectors_at ls xs) (record { tuple = w.tuple; flux = m.flux })))
