use Rattle.std.proofs.Common.{rules, arith, ◌≡◌, ◌∙◌, ◌≤◌, ◌<◌, ◌+◌, ◌^◌, get_or, set, ap, sym, subst}
use Rattle.std.proofs.lemmas.List.{get_or_default}
use Rattle.qn_index.specs.Places.{block_size}
use Rattle.qn_index.specs.Tuples.{IsTuple}
use Rattle.qn_index.proofs.Nets.{tuple_length}
use Rattle.qn_match.specs.Keys.{digits_of, number, numbers}
use Rattle.qn_match.specs.Pairs.{unmarked}
use Rattle.qn_match.proofs.LeftSizes.{left_le}
use Rattle.qn_match.proofs.Summing.{sums_more, sums_small}
use Rattle.qn_match.proofs.counting.sums_by_key.Goals as goal

pub key-key-requires-clause-places : goal.key-key-requires-clause-places
key-key-requires-clause-places g c = λ k d lt.
    let h : IsTuple c.args.legs.now c.as_slice-in-loop-tuple.result.now = subst (λ t. IsTuple c.args.legs.now t) (sym (c.as_slice-in-loop-tuple.ensures ∙ c.tuple-item.is)) (c.requires.tuples c.loop-tuple.tuple-index c.tuple-item.result (omega arith)) in
    omega (arith, c.requires.places k d lt, tuple_length c.args.legs.now c.as_slice-in-loop-tuple.result.now h)

pub overflow_add-index_mut : goal.overflow_add-index_mut
overflow_add-index_mut g c =
    let ls = c.args.legs.now in
    let ms = c.args.marks.now in
    let u = c.tuple-item.result in
    let sums = c.loop-tuple.sums.items in
    let k = c.key-key.result in
    let below : k < numbers c.args.bases.now = c.key-key.ensures.in_range in
    let less : c.left_size-size.result ≤ block_size ls u = subst (λ t. c.left_size-size.result ≤ block_size ls t) c.as_slice.ensures c.left_size-size.ensures.small in
    let bound : get_or sums k 0 + c.left_size-size.result ≤ 2 ^ 22 =
    sums_small (λ t. number c.args.bases.now (digits_of c.args.places.now t)) (λ t. block_size (unmarked ms ls) (unmarked ms t)) (block_size ls) (numbers c.args.bases.now) (2 ^ 22) c.args.tuples.now c.loop-tuple.tuple-index u sums k c.left_size-size.result
    (omega arith) c.tuple-item.is less (λ j d lt. left_le ms ls (get_or c.args.tuples.now j d) c.known_all.ensures (c.requires.tuples j d lt) c.requires.count) c.requires.small below c.loop-tuple.invariant in
    let read : c.index_mut.result.now ≡ get_or sums k 0 = c.index_mut.ensures.value ∙ get_or_default sums k c.index_mut.result.now 0 (omega (arith, below, c.loop-tuple.invariant.count)) in
    let fits : c.index_mut.result.now + c.left_size-size.result < 2 ^ 64 = omega (arith, read, bound) in
    search rules

pub loop-tuple-preserved : goal.loop-tuple-preserved
loop-tuple-preserved g c =
    let ls = c.args.legs.now in
    let ms = c.args.marks.now in
    let u = c.tuple-item.result in
    let sums = c.loop-tuple.sums.items in
    let k = c.key-key.result in
    let below : k < numbers c.args.bases.now = c.key-key.ensures.in_range in
    let read : c.index_mut.result.now ≡ get_or sums k 0 = c.index_mut.ensures.value ∙ get_or_default sums k c.index_mut.result.now 0 (omega (arith, below, c.loop-tuple.invariant.count)) in
    sums_more (λ t. number c.args.bases.now (digits_of c.args.places.now t)) (λ t. block_size (unmarked ms ls) (unmarked ms t)) (numbers c.args.bases.now) c.args.tuples.now c.loop-tuple.tuple-index u sums (set sums k (c.index_mut.result.now + c.left_size-size.result)) k c.left_size-size.result
    (omega arith) c.tuple-item.is (c.key-key.ensures.value ∙ ap (λ t. number c.args.bases.now (digits_of c.args.places.now t)) c.as_slice-in-loop-tuple.ensures)
    (c.left_size-size.ensures.value ∙ ap (λ t. block_size (unmarked ms ls) (unmarked ms t)) c.as_slice.ensures) below (ap (λ n. set sums k (n + c.left_size-size.result)) read) c.loop-tuple.invariant
