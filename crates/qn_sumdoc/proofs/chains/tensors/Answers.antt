use Rattle.std.proofs.Common.{◌≡◌, length, map, arith, rules, sym, subst, ◌∙◌}
use Rattle.std.proofs.lemmas.List.{length-map}
use Rattle.serde_json.specs.View.{view}
use Rattle.qn_parts.specs.Faults.{Fails}
use Rattle.qn_sumdoc.specs.Sites.{sites_of}
use Rattle.qn_sumdoc.proofs.StateChains.{tensors_right, tensors_walk}
use Rattle.qn_sumdoc.proofs.chains.tensors.Goals as goal

pub returns-in_err-made : goal.returns-in_err-made
returns-in_err-made g c =
    let d = view c.args.v.now in
    let list = map view c.items_at-list.result.now in
    let count : length list ≡ length (sites_of d) = omega (arith, length-map c.items_at-list.result.now view) in
    let walk = tensors_walk c.args.key.now c.args.base d c.args.group.now list c.requires.group c.items_at-list.ensures count in
    let fails = subst (Fails c.in_err-made.field-0.0) walk c.in_err-made.ensures in
    search (rules, fails)

pub returns : goal.returns
returns g c =
    let d = view c.args.v.now in
    let list = map view c.items_at-list.result.now in
    let count : length list ≡ length (sites_of d) = omega (arith, length-map c.items_at-list.result.now view) in
    let walk = tensors_walk c.args.key.now c.args.base d c.args.group.now list c.requires.group c.items_at-list.ensures count in
    let read = c.in_ok-made.ensures in
    (sym walk ∙ read.0, tensors_right c.args.key.now d c.args.group.now list c.in_ok-made.made.items c.requires.group c.items_at-list.ensures read.1.0 read.1.1)
