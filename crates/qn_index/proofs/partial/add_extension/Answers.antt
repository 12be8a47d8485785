use Rattle.std.proofs.Common.{◌≡◌, ◌∙◌, ◌++◌, ◌∷◌, [], ap, sym, List}
use Rattle.qn_index.specs.Weights.{PartialValue, extended}
use Rattle.std.proofs.lemmas.List.{append-nil}
use Rattle.qn_index.proofs.Partials.{partial_of, extension_none, extension_some}
use Rattle.qn_index.proofs.partial.add_extension.Goals as goal

pub returns-then-not-has : goal.returns-then-not-has
returns-then-not-has g c =
    let out = c.args.out.now.items in
    sym (ap (λ (ps : List PartialValue). out ++ ps) (extension_none c.args.group.now c.args.leg.now c.args.table.now c.args.partial.now c.args.sector c.flux_after-flux.result c.flux_after-flux.ensures (sym c.has.ensures ∙ c.if-not-has.true)) ∙ append-nil out)

pub returns : goal.returns
returns g c =
    let out = c.args.out.now.items in
    let list = c.args.partial.now.list ++ c.args.sector ∷ [] in
    let made : c.in_ok-with.field-0 ≡ extended c.args.group.now c.args.leg.now c.args.partial.now c.args.sector = c.in_ok-with.ensures ∙ ap (partial_of list) c.flux_after-flux.ensures in
    c.in_ok-push.ensures.items ∙ (ap (λ (x : PartialValue). out ++ x ∷ []) made ∙ sym (ap (λ (ps : List PartialValue). out ++ ps) (extension_some c.args.group.now c.args.leg.now c.args.table.now c.args.partial.now c.args.sector c.flux_after-flux.result c.flux_after-flux.ensures (sym c.has.ensures ∙ c.if-not-has.false))))
