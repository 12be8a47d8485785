use Rattle.std.proofs.Common.{rules, arith, ◌≡◌, ◌∙◌, ◌<◌, ◌+◌, ◌*◌, ◌^◌, ℕ, List, get_or, ap, ap₂, sym, subst}
use Rattle.qn_index.specs.Places.{block_size}
use Rattle.qn_index.specs.Tuples.{IsTuple}
use Rattle.qn_index.proofs.Nets.{tuple_length}
use Rattle.qn_match.specs.Keys.{digits_of, number}
use Rattle.qn_match.proofs.Summing.{products_small, read_small}
use Rattle.qn_match.proofs.counting.total.Goals as goal

pub key-key-requires-clause-places : goal.key-key-requires-clause-places
key-key-requires-clause-places g c = λ k d lt.
    let h : IsTuple c.args.legs.now c.as_slice.result.now = subst (λ t. IsTuple c.args.legs.now t) (sym (c.as_slice.ensures ∙ c.tuple-item.is)) (c.requires.tuples c.loop-tuple.tuple-index c.tuple-item.result (omega arith)) in
    omega (arith, c.requires.places k d lt, tuple_length c.args.legs.now c.as_slice.result.now h)

pub overflow_add-total : goal.overflow_add-total
overflow_add-total g c =
    let ls = c.args.legs.now in
    let a : List ℕ → ℕ = block_size ls in
    let b : List ℕ → ℕ = λ t. get_or c.args.sums.now (number c.args.bases.now (digits_of c.args.places.now t)) 0 in
    let u = c.tuple-item.result in
    let more = products_small a b (2 ^ 22) (2 ^ 22) c.args.tuples.now c.loop-tuple.tuple-index u (omega arith) c.tuple-item.is (λ t. read_small c.args.sums.now (2 ^ 22) (number c.args.bases.now (digits_of c.args.places.now t)) c.requires.sums) c.requires.small in
    let size : c.block_len.result ≡ a u = c.block_len.ensures ∙ ap a c.as_slice-in-loop-tuple.ensures in
    let sum : get_or c.args.sums.now c.key-key.result 0 ≡ b u =
    ap (λ k. get_or c.args.sums.now k 0) (c.key-key.ensures.value ∙ ap (λ t. number c.args.bases.now (digits_of c.args.places.now t)) c.as_slice.ensures) in
    let e : c.block_len.result * get_or c.args.sums.now c.key-key.result 0 ≡ a u * b u = ap₂ (λ m n. m * n) size sum in
    let fits : c.loop-tuple.total + c.block_len.result * get_or c.args.sums.now c.key-key.result 0 < 2 ^ 64 = omega (arith, c.loop-tuple.invariant, more, e) in
    search rules
