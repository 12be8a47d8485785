use Rattle.std.proofs.Common.{◌≡◌, ◌∙◌, sym, ap, subst, lit<, arith}
use Rattle.qn_index.specs.Tuples.{IsTuple}
use Rattle.qn_index.specs.Places.{block_size}
use Rattle.qn_match.specs.Pairs.{TaskValue}
use Rattle.qn_pair.specs.Jobs.{JobValue, IsKnown, legs_of, tuple_at}
use Rattle.qn_pair.proofs.Listed.{listed_tuple}
use Rattle.qn_pair.proofs.frame.Frame.size.Goals as goal

pub block_len-requires : goal.block_len-requires
block_len-requires g c =
    let known : IsKnown c.args.self.now = subst IsKnown c.self.view_is c.known.ensures in
    let left : c.deref.result.now ≡ legs_of c.args.self.now = c.deref.ensures.value ∙ c.self.invariant.left_is ∙ ap legs_of c.self.view_is in
    let out : c.as_slice.result.now ≡ tuple_at c.args.self.now c.args.task = c.as_slice.ensures ∙ ap (λ (t : TaskValue). t.out) (c.behind-job.view_is ∙ c.task.ensures) ∙ ap (λ (j : JobValue). tuple_at j c.args.task) c.self.view_is in
    let l = listed_tuple c.args.self.now c.args.task known.pair c.requires in
    let same : block_size c.deref.result.now c.as_slice.result.now ≡ block_size (legs_of c.args.self.now) (tuple_at c.args.self.now c.args.task) = (λ i. block_size (left i) (out i)) in
    (lit< tt, (subst (λ p. p) (λ i. IsTuple (sym left i) (sym out i)) l.admissible.tuple, omega (arith, l.small, same)))

pub returns-clause-small : goal.returns-clause-small
returns-clause-small g c =
    let known : IsKnown c.args.self.now = subst IsKnown c.self.view_is c.known.ensures in
    let left : c.deref.result.now ≡ legs_of c.args.self.now = c.deref.ensures.value ∙ c.self.invariant.left_is ∙ ap legs_of c.self.view_is in
    let out : c.as_slice.result.now ≡ tuple_at c.args.self.now c.args.task = c.as_slice.ensures ∙ ap (λ (t : TaskValue). t.out) (c.behind-job.view_is ∙ c.task.ensures) ∙ ap (λ (j : JobValue). tuple_at j c.args.task) c.self.view_is in
    let same : block_size c.deref.result.now c.as_slice.result.now ≡ block_size (legs_of c.args.self.now) (tuple_at c.args.self.now c.args.task) = (λ i. block_size (left i) (out i)) in
    omega (arith, c.block_len.ensures, (listed_tuple c.args.self.now c.args.task known.pair c.requires).small, same)
