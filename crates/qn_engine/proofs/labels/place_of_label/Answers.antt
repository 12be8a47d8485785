use Rattle.std.proofs.Common.{rules, ◌≡◌, to_z, of_z, w64, ◌∙◌, ap}
use Rattle.qn_engine.specs.Labels.{place_in}
use Rattle.qn_engine.proofs.Naming.{from_first}
use Rattle.qn_engine.proofs.labels.place_of_label.Goals as goal

pub returns-clause-place : goal.returns-clause-place
returns-clause-place c =
    let item : to_z w64 (of_z w64 c.args.label) ≡ c.args.label = search rules in
    c.place_from.ensures.place ∙ from_first (to_z w64 (of_z w64 c.args.label)) c.args.labels.now ∙ ap (λ l. place_in l c.args.labels.now) item
