use Rattle.std.proofs.Common.{◌≡◌, ◌∙◌, ap, sym, subst}
use Rattle.qn_match.specs.Pairs.{TaskValue}
use Rattle.qn_kernel.specs.Sources.{AreSources}
use Rattle.qn_pair.specs.Jobs.{JobValue, IsKnown, tuple_at}
use Rattle.qn_pair.proofs.Listed.{listed_tuple}
use Rattle.qn_pair.proofs.Tasks.{place_made, place_none, found_none, found_some}
use Rattle.qn_pair.proofs.frame.Frame.first_place.Goals as goal

pub unreachable-requires : goal.unreachable-requires
unreachable-requires g c =
    let known : IsKnown c.args.self.now = subst IsKnown c.self.view_is c.known.ensures in
    place_none c.args.self.now c.args.task known.first known.second known.pair (listed_tuple c.args.self.now c.args.task known.pair c.requires.task).admissible.tuple c.deref.result.now (c.deref.ensures.value ∙ c.in_ok-sources.ensures.value) c.size-size.result c.size-size.ensures.value (found_none c.in_ok-found.found _ _ c.in-None.is c.in_ok-found.ensures) c.requires.passes

pub returns : goal.returns
returns g c =
    let known : IsKnown c.args.self.now = subst IsKnown c.self.view_is c.known.ensures in
    let out : c.behind-job.inside.out ≡ tuple_at c.args.self.now c.args.task = ap (λ (t : TaskValue). t.out) (c.behind-job.view_is ∙ c.task.ensures) ∙ ap (λ (j : JobValue). tuple_at j c.args.task) c.self.view_is in (
      c.in_ok-at-in-Some.ensures ∙ out,
      place_made c.args.self.now c.args.task known.first known.second known.pair (listed_tuple c.args.self.now c.args.task known.pair c.requires.task).admissible.tuple c.deref.result.now (c.deref.ensures.value ∙ c.in_ok-sources.ensures.value) c.size-size.result c.size-size.ensures.value c.in-Some.offset (found_some c.in_ok-found.found _ _ c.in-Some.offset c.in-Some.is c.in_ok-found.ensures),
    )

pub first_above-requires-clause-sources : goal.first_above-requires-clause-sources
first_above-requires-clause-sources g c = subst (λ q. q) (λ i. AreSources (sym c.size-size.ensures.value i) (sym c.deref.ensures.value i)) c.in_ok-sources.ensures.small
