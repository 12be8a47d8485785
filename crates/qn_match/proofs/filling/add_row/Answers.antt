use Rattle.std.proofs.Common.{◌∙◌, ◌<◌, ◌++◌, [], length, map, take, get_or, refl, ap, ap₂, sym, subst}
use Rattle.std.proofs.lemmas.List.{get_or_default, take_more}
use Rattle.qn_match.specs.Index.{AreInOrder, with_pair, with_row}
use Rattle.qn_match.specs.Pairs.{TaskValue}
use Rattle.qn_match.proofs.Added.{row_none, row_more, in_order}
use Rattle.qn_match.proofs.filling.add_row.Goals as goal

pub loop-j-init : goal.loop-j-init
loop-j-init c = row_none c.args.tasks.now.items c.args.i c.args.left.now c.args.lefts.now

pub bounds-lefts-j : goal.bounds-lefts-j
bounds-lefts-j c = c.requires.positions c.loop-j.j-index 0 c.loop-j-test.true

pub add_pair-requires : goal.add_pair-requires
add_pair-requires c =
    let js = take c.loop-j.j-index c.args.positions.now in
    subst AreInOrder (sym c.loop-j.invariant) (in_order (λ (t : TaskValue). t.out) (with_row c.args.i c.args.left.now c.args.lefts.now js) c.args.tasks.now.items (λ t. refl) c.requires.order)

pub loop-j-preserved : goal.loop-j-preserved
loop-j-preserved c =
    let n = c.loop-j.j-index in
    let js = c.args.positions.now in
    let j = get_or js n 0 in
    let below : j < length c.args.lefts.now = c.requires.positions n 0 c.loop-j-test.true in
    let ts = c.args.tasks.now.items in
    let second = c.as_slice.ensures ∙ (c.index-lefts-j.is ∙ get_or_default c.args.lefts.now j c.index-lefts-j.result [] below) in
    let out = c.as_slice-in-loop-j.ensures ∙ (c.in_ok-out.ensures ∙ ap (λ u. c.args.left.now ++ u) second) in
    c.in_ok-add_pair.ensures
    ∙ (ap₂ (λ u us. map (with_pair u (c.args.i, j)) us) out c.loop-j.invariant
    ∙ (row_more ts c.args.i c.args.left.now c.args.lefts.now (take n js) j
    ∙ ap (λ ks. map (with_row c.args.i c.args.left.now c.args.lefts.now ks) ts) (sym (take_more js n 0 c.loop-j-test.true))))
