use Rattle.std.proofs.Common.{rules, ◌≡◌, ◌+◌, to_z, of_z, w64, drop, ◌∙◌, ap}
use Rattle.qn_engine.specs.Labels.{place_in}
use Rattle.qn_engine.proofs.Naming.{couple_is, couple_room}
use Rattle.qn_engine.proofs.labels.couple_of.Goals as goal

pub place_from-requires : goal.place_from-requires
place_from-requires c =
    let item : to_z w64 (of_z w64 c.args.label) ≡ c.args.label = search rules in
    couple_room c.args.label c.args.labels.now c.place_of_label-first.result (c.place_of_label-first.ensures.place ∙ ap (λ l. place_in l c.args.labels.now) item) c.requires

pub returns : goal.returns
returns c =
    let item : to_z w64 (of_z w64 c.args.label) ≡ c.args.label = search rules in
    couple_is c.args.label c.args.labels.now c.place_of_label-first.result c.place_from.result (c.place_of_label-first.ensures.place ∙ ap (λ l. place_in l c.args.labels.now) item)
    (c.place_from.ensures.place ∙ ap (λ l. (c.place_of_label-first.result + 1) + place_in l (drop (c.place_of_label-first.result + 1) c.args.labels.now)) item)
