use Rattle.std.proofs.Common.{◌≤◌, ◌∙◌, ◌&&◌, ap, sym, subst, lit<, List}
use Rattle.qn_charge.specs.Charges.{parity}
use Rattle.qn_index.specs.Legs.{LegValue}
use Rattle.qn_index.specs.Tuples.{IsTuple}
use Rattle.qn_index.specs.Places.{block_size}
use Rattle.qn_match.specs.Pairs.{TaskValue}
use Rattle.qn_kernel.specs.Sources.{sources, AreSources}
use Rattle.qn_pair.proofs.Tasks.{sources_asked, AreAsked, if_ok}
use Rattle.qn_pair.proofs.frame.sources_of_task.Goals as goal

pub sources_of-requires : goal.sources_of-requires
sources_of-requires g c =
    let l = c.requires.lists in
    let r = sources_asked c.args.a.now c.args.b.now c.args.shared.now c.args.lists.now.word.items c.args.lists.now.goal.items c.args.lists.now.places.items c.args.lists.now.left.items c.args.task.now c.known.ensures c.known-2.ensures l.frame c.requires.task
    (subst (λ (ls : List LegValue). IsTuple ls c.args.task.now.out) (sym l.left_is) c.requires.tuple) (subst (λ (ls : List LegValue). block_size ls c.args.task.now.out ≤ 4194304) (sym l.left_is) c.requires.small)
    c.legs.result.now c.legs-2.result.now c.as_slice-sectors.result.now c.blocks-2.result.now c.blocks-3.result.now c.deref-5.result.now
    c.legs.ensures c.legs-2.ensures (c.as_slice-sectors.ensures ∙ ap (λ (t : TaskValue). t.out) c.task.view_is) c.blocks-2.ensures c.blocks-3.ensures (c.deref-5.ensures.value ∙ ap (λ (t : TaskValue). t.pairs) c.task.view_is) in
    let q : AreAsked c.legs.result.now c.legs-2.result.now c.args.shared.now c.deref.result.now c.deref-2.result.now c.deref-3.result.now c.deref-4.result.now c.as_slice-sectors.result.now c.blocks-2.result.now c.blocks-3.result.now c.deref-5.result.now =
    subst (λ p. p) (λ i. AreAsked c.legs.result.now c.legs-2.result.now c.args.shared.now (sym c.deref.ensures.value i) (sym c.deref-2.ensures.value i) (sym c.deref-3.ensures.value i) (sym c.deref-4.ensures.value i) c.as_slice-sectors.result.now c.blocks-2.result.now c.blocks-3.result.now c.deref-5.result.now) r in
    (lit< tt, (lit< tt, (q.frame, (q.tuple, (q.small, (q.first, (q.second, (q.first_there, q.second_there))))))))

pub returns-clause-value : goal.returns-clause-value
returns-clause-value g c =
    let l = c.requires.lists in
    let turn = c.is_turned-turned.ensures ∙ (λ i. c.args.between_odd && parity (c.group.ensures i) (c.flux.ensures i)) in
    let sectors = c.as_slice-sectors.ensures ∙ ap (λ (t : TaskValue). t.out) c.task.view_is in
    let pairs = c.deref-5.ensures.value ∙ ap (λ (t : TaskValue). t.pairs) c.task.view_is in
    let left = c.deref-4.ensures.value ∙ l.left_is in
    if_ok _ _ c.sources_of.result
    (λ v e. e ∙ (λ i. sources (c.group-2.ensures i) (c.legs.ensures i) (c.legs-2.ensures i) c.args.shared.now (turn i) (left i) (sectors i) (c.blocks-2.ensures i) (c.blocks-3.ensures i) (pairs i)))
    c.sources_of.ensures.value

pub returns-clause-small : goal.returns-clause-small
returns-clause-small g c =
    let l = c.requires.lists in
    let sectors = c.as_slice-sectors.ensures ∙ ap (λ (t : TaskValue). t.out) c.task.view_is in
    let left = c.deref-4.ensures.value ∙ l.left_is in
    if_ok _ _ c.sources_of.result (λ v h. subst (λ q. q) (λ i. AreSources (block_size (left i) (sectors i)) v.items) h) c.sources_of.ensures.small
