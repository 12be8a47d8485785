use Rattle.std.proofs.Common.{arith, ◌≡◌, ◌∙◌, refl, lit<}
use Rattle.qn_charge.specs.Charges.{sum_charge}
use Rattle.qn_match.specs.Pairs.{joined}
use Rattle.qn_match.proofs.Conditions.{AreAdded, are_added, AreListed, are_listed, are_long, are_ascending}
use Rattle.qn_match.proofs.task.pairs.Goals as goal

pub add-flux-requires : goal.add-flux-requires
add-flux-requires g c =
    let f : AreAdded c.group.result.now c.flux.result.now c.flux-2.result.now =
    are_added c.args.a.now c.args.b.now c.args.shared.now c.group.result.now c.flux.result.now c.flux-2.result.now c.group.ensures c.flux.ensures c.flux-2.ensures c.known.ensures c.known-2.ensures c.requires.pair in
    (lit< tt, (lit< tt, (f.first, (f.second, f.within))))

pub admissible-requires : goal.admissible-requires
admissible-requires g c =
    let legs : c.deref.result.now ≡ joined c.args.shared.now c.args.a.now.legs c.args.b.now.legs =
    c.deref.ensures.value ∙ (c.in_ok-legs.ensures ∙ (λ i. joined c.args.shared.now (c.legs.ensures i) (c.legs-2.ensures i))) in
    let flux : c.add-flux.result ≡ sum_charge c.args.a.now.group c.args.a.now.flux c.args.b.now.flux =
    c.add-flux.ensures.value ∙ (λ i. sum_charge (c.group.ensures i) (c.flux.ensures i) (c.flux-2.ensures i)) in
    let f : AreListed c.group-2.result.now c.deref.result.now c.add-flux.result =
    are_listed c.args.a.now c.args.b.now c.args.shared.now c.group-2.result.now c.deref.result.now c.add-flux.result c.group-2.ensures legs flux c.known.ensures c.known-2.ensures c.requires.pair in
    (lit< tt, (lit< tt, (lit< tt, (f.few, (f.group, (f.flux, f.width))))))

pub left_of_firsts-requires : goal.left_of_firsts-requires
left_of_firsts-requires g c =
    let f = are_long c.args.a.now c.blocks-2.result.now c.legs-3.result.now c.blocks-2.ensures c.legs-3.ensures c.known.ensures in
    record { counts = f.counts }

pub left_of_seconds-requires : goal.left_of_seconds-requires
left_of_seconds-requires g c =
    let f = are_long c.args.b.now c.blocks-3.result.now c.legs-4.result.now c.blocks-3.ensures c.legs-4.ensures c.known-2.ensures in
    record { counts = f.counts }

pub tasks_of-requires-clause-firsts : goal.tasks_of-requires-clause-firsts
tasks_of-requires-clause-firsts g c = λ k d lt m p in_range.
    let f = are_long c.args.a.now c.blocks-4.result.now c.args.a.now.legs c.blocks-4.ensures refl c.known.ensures in
    let long = f.counts k d lt in
    omega (arith, long, c.requires.pair.shapes.legs.first m p in_range)

pub tasks_of-requires-clause-seconds : goal.tasks_of-requires-clause-seconds
tasks_of-requires-clause-seconds g c = λ k d lt m p in_range.
    let f = are_long c.args.b.now c.blocks-5.result.now c.args.b.now.legs c.blocks-5.ensures refl c.known-2.ensures in
    let long = f.counts k d lt in
    omega (arith, long, c.requires.pair.shapes.legs.second m p in_range)

pub tasks_of-requires-clause-ascending : goal.tasks_of-requires-clause-ascending
tasks_of-requires-clause-ascending g c = are_ascending c.group-2.result.now c.deref.result.now c.add-flux.result c.deref-4.result.now (c.deref-4.ensures.value ∙ c.in_ok-tuples.ensures)
