use Rattle.std.proofs.Common.{Contains, rules, arith, ◌≡◌, ◌≤◌, ◌<◌, ◌∙◌, ◌++◌, ◌∷◌, [], ap, sym, subst, length, lit<, get_or, ℕ, List, add-one, drop}
use Rattle.std.specs.List.{All, AllPairs}
use Rattle.std.proofs.lemmas.List.{get_or_default, length-map}
use Rattle.qn_index.specs.Legs.{LegValue}
use Rattle.qn_index.specs.Tuples.{IsTuple, admitted}
use Rattle.qn_index.specs.Places.{sectors_at, block_size}
use Rattle.qn_index.proofs.Places.{forth}
use Rattle.qn_index.proofs.Admitted.{listed}
use Rattle.qn_value.specs.Tensors.{BlockValue, IsBlock, no_block}
use Rattle.qn_value.specs.Local.{picked, no_leg, IsCoupling}
use Rattle.qn_value.specs.Magnitudes.{first_passing, trace_magnitude}
use Rattle.qn_block.specs.Blocked.{tensor_of}
use Rattle.qn_block.specs.Refusals.{block_at}
use Rattle.qn_block.specs.Steps.{IsStepFault}
use Rattle.qn_block.proofs.Written.{IsFilled, Under, listed_at, admitted_pairs, filled_more, filled_ascend, filled_answer}
use Rattle.qn_strides.specs.Strides.{open_places, goal_places}
use Rattle.qn_trace.specs.Sources.{sources, IsBelow, IsReadable}
use Rattle.qn_value.proofs.CoupledLemmas.{leg_at}
use Rattle.qn_trace.proofs.Blocks.{Answers, IsMade, filled_is, clear_is, fault_is, readable, have_blocks, tuples_are}
use Rattle.qn_strides.proofs.Passing.{passing_next}
use Rattle.qn_trace.proofs.tensor.blocks_of.Goals as goal

pub sources_of-requires : goal.sources_of-requires
sources_of-requires g c =
    let t = c.args.t.now in
    let cs = c.args.couples.now in
    let ls = c.args.left.now in
    let all : c.deref.result.now ≡ admitted t.group ls t.flux = tuples_are t.group _ ls t.flux _ _ (c.deref.ensures.value ∙ c.in_ok-tuples.ensures) c.group.ensures c.flux.ensures in
    let e = c.legs.ensures in
    let few : length t.legs ≤ 64 = c.known.ensures.shape.legs in (
      lit< tt,
      (
        lit< tt,
        (
          omega (arith, few, ap (λ (ks : List LegValue). length ks) e),
          (
            subst (λ ks. IsCoupling ks cs) (sym e) c.requires.couples,
            (
              c.requires.goal ∙ ap (λ (ks : List LegValue). goal_places ks cs) (sym e),
              (
                c.requires.places ∙ ap (λ (ks : List LegValue). open_places cs (length ks)) (sym e),
                (
                  ap (λ (ks : List LegValue). length ks) c.requires.left ∙ length-map c.args.places.now (leg_at t.legs),
                  (
                    have_blocks t.group ls t.flux c.deref.result.now c.requires.shape all,
                    (
                      subst (λ us. AllPairs IsBelow us) (sym all) (admitted_pairs t.group ls t.flux),
                      subst (λ ks. All (IsReadable ks) c.blocks-2.result.now) (sym e) (subst (λ (bs : List BlockValue). All (IsReadable t.legs) bs) (sym c.blocks-2.ensures) (readable t c.known.ensures)),
                    ),
                  ),
                ),
              ),
            ),
          ),
        ),
      ),
    )

pub block_len-len-requires : goal.block_len-len-requires
block_len-len-requires g c =
    let t = c.args.t.now in
    let ls = c.args.left.now in
    let ss = c.index-tuple.result.now in
    let all : c.in_ok-tuples.tuples.items ≡ admitted t.group ls t.flux = tuples_are t.group _ ls t.flux _ _ c.in_ok-tuples.ensures c.group.ensures c.flux.ensures in
    let a = listed_at t.group ls t.flux c.in_ok-tuples.tuples.items c.loop-number.number ss c.requires.shape all (search rules) c.index-tuple.ensures in
    let size : block_size ls c.as_slice.result.now ≡ block_size ls ss = ap (block_size ls) c.as_slice.ensures in
    (lit< tt, (subst (IsTuple ls) (sym c.as_slice.ensures) a.admissible.tuple, omega (arith, a.small, size)))

pub block_from-requires-clause-len : goal.block_from-requires-clause-len
block_from-requires-clause-len g c =
    let t = c.args.t.now in
    let ls = c.args.left.now in
    let ss = c.index-tuple.result.now in
    let all : c.in_ok-tuples.tuples.items ≡ admitted t.group ls t.flux = tuples_are t.group _ ls t.flux _ _ c.in_ok-tuples.ensures c.group.ensures c.flux.ensures in
    let a = listed_at t.group ls t.flux c.in_ok-tuples.tuples.items c.loop-number.number ss c.requires.shape all (search rules) c.index-tuple.ensures in
    let size : block_size ls c.as_slice.result.now ≡ block_size ls ss = ap (block_size ls) c.as_slice.ensures in
    omega (arith, a.small, size, c.block_len-len.ensures)

pub returns-in_err-block_from-clause-err : goal.returns-in_err-block_from-clause-err
returns-in_err-block_from-clause-err g c =
    let t = c.args.t.now in
    let cs = c.args.couples.now in
    let ls = c.args.left.now in
    let ss = c.index-tuple.result.now in
    let xs = c.as_slice-in-loop-number.result.now in
    let len = c.block_len-len.result in
    let all : c.in_ok-tuples.tuples.items ≡ admitted t.group ls t.flux = tuples_are t.group _ ls t.flux _ _ c.in_ok-tuples.ensures c.group.ensures c.flux.ensures in
    let at : ss ≡ get_or c.in_ok-tuples.tuples.items c.loop-number.number [] = c.index-tuple.ensures ∙ get_or_default c.in_ok-tuples.tuples.items c.loop-number.number ss [] (search rules) in
    let made : IsMade t cs ls ss xs len = record {
      blocked = c.known.ensures;
      good = c.requires.couples;
      left = c.requires.left ∙ ap (picked no_leg t.legs) c.requires.places;
      listed = listed_at t.group ls t.flux c.in_ok-tuples.tuples.items c.loop-number.number ss c.requires.shape all (search rules) c.index-tuple.ensures;
      sources =
          c.as_slice-in-loop-number.ensures ∙ c.index.ensures ∙ get_or_default c.in_ok-gathered.gathered.items c.loop-number.number c.index.result.now [] (search rules)
          ∙ c.in_ok-gathered.ensures.each c.loop-number.number (search rules)
          ∙ (λ i. sources (c.group-2.ensures i) (c.legs.ensures i) cs ls ((ap (λ us. get_or us c.loop-number.number []) c.deref.ensures.value ∙ sym at) i) (c.blocks-2.ensures i));
      len_is = c.block_len-len.ensures ∙ ap (block_size ls) c.as_slice.ensures;
    } in
    let fault = fault_is t cs ls c.in_ok-tuples.tuples.items c.loop-number.number ss xs len c.in_err-block_from.field-0.0 made (search rules) c.index-tuple.ensures c.loop-number.invariant.clear (search (rules, c.in_err-block_from.ensures.err)) in
    let there : IsStepFault (first_passing (trace_magnitude (tensor_of t) cs) ls (admitted t.group ls t.flux)) c.in_err-block_from.field-0.0 = subst (λ ts. IsStepFault (first_passing (trace_magnitude (tensor_of t) cs) ls ts) c.in_err-block_from.field-0.0) all fault in
    search (rules, there)

pub loop-number-preserved : goal.loop-number-preserved
loop-number-preserved g c =
    let t = c.args.t.now in
    let cs = c.args.couples.now in
    let ls = c.args.left.now in
    let ss = c.index-tuple.result.now in
    let ts = c.in_ok-tuples.tuples.items in
    let i = c.loop-number.number in
    let xs = c.as_slice-in-loop-number.result.now in
    let len = c.block_len-len.result in
    let b = c.in_ok-block_from.field-0 in
    let below : i < length ts = search rules in
    let all : c.in_ok-tuples.tuples.items ≡ admitted t.group ls t.flux = tuples_are t.group _ ls t.flux _ _ c.in_ok-tuples.ensures c.group.ensures c.flux.ensures in
    let at : ss ≡ get_or c.in_ok-tuples.tuples.items c.loop-number.number [] = c.index-tuple.ensures ∙ get_or_default c.in_ok-tuples.tuples.items c.loop-number.number ss [] (search rules) in
    let made : IsMade t cs ls ss xs len = record {
      blocked = c.known.ensures;
      good = c.requires.couples;
      left = c.requires.left ∙ ap (picked no_leg t.legs) c.requires.places;
      listed = listed_at t.group ls t.flux c.in_ok-tuples.tuples.items c.loop-number.number ss c.requires.shape all (search rules) c.index-tuple.ensures;
      sources =
          c.as_slice-in-loop-number.ensures ∙ c.index.ensures ∙ get_or_default c.in_ok-gathered.gathered.items c.loop-number.number c.index.result.now [] (search rules)
          ∙ c.in_ok-gathered.ensures.each c.loop-number.number (search rules)
          ∙ (λ i. sources (c.group-2.ensures i) (c.legs.ensures i) cs ls ((ap (λ us. get_or us c.loop-number.number []) c.deref.ensures.value ∙ sym at) i) (c.blocks-2.ensures i));
      len_is = c.block_len-len.ensures ∙ ap (block_size ls) c.as_slice.ensures;
    } in
    let new : IsFilled (Answers t cs) t.group ls t.flux ss b = filled_is t cs ls ss xs len b made c.in_ok-block_from.ensures.block in
    let pushed : c.push.new.self.items ≡ c.loop-number.blocks.items ++ b ∷ [] = search rules in
    record {
      count = search (rules, c.loop-number.invariant.count, pushed);
      filled = λ k lt. subst (λ (bs : List BlockValue). IsFilled (Answers t cs) t.group ls t.flux (get_or ts k []) (block_at bs k)) (sym pushed) (filled_more (Answers t cs) t.group ls t.flux ts c.loop-number.blocks.items b i ss c.loop-number.invariant.count below c.index-tuple.ensures c.loop-number.invariant.filled new k lt);
      clear =
          passing_next (trace_magnitude (tensor_of t) cs) ls ts i ss below c.index-tuple.ensures c.loop-number.invariant.clear (clear_is t cs ls ss xs len made c.in_ok-block_from.ensures.clear)
          ∙ ap (λ n. first_passing (trace_magnitude (tensor_of t) cs) ls (drop n ts)) (sym (add-one i));
    }

pub returns-clause-blocks : goal.returns-clause-blocks
returns-clause-blocks g c = λ k d lt. subst (IsBlock c.args.t.now.group c.args.left.now c.args.t.now.flux) (get_or_default c.loop-number.blocks.items k no_block d lt) (c.loop-number.invariant.filled k (omega (arith, c.loop-number.invariant.count))).block

pub returns-clause-ascending : goal.returns-clause-ascending
returns-clause-ascending g c =
    let t = c.args.t.now in
    let ls = c.args.left.now in
    let ts = c.in_ok-tuples.tuples.items in
    let all : ts ≡ admitted t.group ls t.flux = tuples_are t.group _ ls t.flux _ _ c.in_ok-tuples.ensures c.group.ensures c.flux.ensures in
    let long : length ts ≡ length c.loop-number.blocks.items = search (rules, c.loop-number.invariant.count) in
    filled_ascend (Answers t c.args.couples.now) t.group ls t.flux ts c.loop-number.blocks.items long (subst (λ (us : List (List ℕ)). AllPairs Under us) (sym all) (admitted_pairs t.group ls t.flux)) (λ k lt. c.loop-number.invariant.filled k (omega (arith, c.loop-number.invariant.count)))

pub returns-clause-entries : goal.returns-clause-entries
returns-clause-entries g c = λ xs m.
    let t = c.args.t.now in
    let ls = c.args.left.now in
    let ts = c.in_ok-tuples.tuples.items in
    let all : ts ≡ admitted t.group ls t.flux = tuples_are t.group _ ls t.flux _ _ c.in_ok-tuples.ensures c.group.ensures c.flux.ensures in
    let long : length ts ≡ length c.loop-number.blocks.items = search (rules, c.loop-number.invariant.count) in
    let w = forth ls xs m.range in
    filled_answer (Answers t c.args.couples.now) t.group ls t.flux ts c.loop-number.blocks.items xs long (returns-clause-ascending g c) (λ k lt. c.loop-number.invariant.filled k (omega (arith, c.loop-number.invariant.count))) m.range
    (subst (λ (us : List (List ℕ)). Contains us (sectors_at ls xs)) (sym all) (listed t.group ls t.flux (sectors_at ls xs) (record { tuple = w.tuple; flux = m.flux })))
