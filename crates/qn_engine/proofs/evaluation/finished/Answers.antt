use Rattle.std.proofs.Common.{◌≡◌, lit<, length, sym, ◌∙◌, ap, subst, arith}
use Rattle.qn_value.specs.Local.{Moved}
use Rattle.qn_sign.specs.Positions.{IsOrder}
use Rattle.qn_block.specs.Blocked.{BlockedValue, tensor_of}
use Rattle.qn_engine.specs.Evaluated.{IsCanonicalTensor}
use Rattle.qn_engine.specs.Labels.{open_places}
use Rattle.qn_net.specs.Members.{IsNarrow}
use Rattle.qn_engine.specs.Parts.{PartValue}
use Rattle.qn_engine.proofs.Making.{same_at}
use Rattle.qn_engine.proofs.Finishing.{last_read, last_narrow, last_facts, filled}
use Rattle.qn_engine.proofs.evaluation.finished.Goals as goal

pub remove-requires : goal.remove-requires
remove-requires g c =
    let e : length c.args.parts.items ≡ 1 = last_read c.network_value_law.ensures c.requires.0 c.args.parts.items c.requires.1 in
    omega (arith, e)

pub settled-requires : goal.settled-requires
settled-requires g c = (
  lit< tt,
  (lit< tt, subst IsNarrow (sym (ap (λ (p : PartValue). p.member) c.held.view_is)) (last_narrow c.network_value_law.ensures c.requires.0 c.args.parts.items c.requires.1 c.remove.result c.remove.ensures.value)),
)

pub permute-requires-clause-order : goal.permute-requires-clause-order
permute-requires-clause-order g c = λ κs h. (
  lit< tt,
  subst (λ order. IsOrder (length c.get-last.result.now.legs) order)
      (sym (c.deref-2.ensures.value ∙ c.in_ok-order.ensures ∙ ap open_places (c.deref.ensures.value ∙ ap (λ (p : PartValue). p.labels) c.held.view_is)))
      (last_facts c.network_value_law.ensures c.last_tensor_law.ensures c.requires.0 c.args.parts.items c.requires.1 c.remove.result c.remove.ensures.value (tensor_of c.get-last.result.now)
      (c.entries_of_blocks.ensures.tensor c.get-last.result.now c.known.ensures)
      (same_at _ c.get-last.result.now _ c.remove.result c.get-last.ensures (ap (λ (p : PartValue). p.member) c.held.view_is) c.in_ok-tensor.ensures)).order,
)

pub returns-clause-value : goal.returns-clause-value
returns-clause-value g c = λ net w.
    (last_facts c.network_value_law.ensures c.last_tensor_law.ensures net c.args.parts.items w c.remove.result c.remove.ensures.value (tensor_of c.get-last.result.now)
    (c.entries_of_blocks.ensures.tensor c.get-last.result.now c.known.ensures)
    (same_at _ c.get-last.result.now _ c.remove.result c.get-last.ensures (ap (λ (p : PartValue). p.member) c.held.view_is) c.in_ok-tensor.ensures)).value_is
    c.in_ok-moved.moved c.canonical.result
    (subst (λ order. Moved (tensor_of c.get-last.result.now) order (tensor_of c.in_ok-moved.moved))
    (c.deref-2.ensures.value ∙ c.in_ok-order.ensures ∙ ap open_places (c.deref.ensures.value ∙ ap (λ (p : PartValue). p.labels) c.held.view_is)) c.in_ok-moved.ensures)
    (ap (λ (t : BlockedValue). t.group) c.canonical.ensures.blocks) (ap (λ (t : BlockedValue). t.legs) c.canonical.ensures.blocks) (ap (λ (t : BlockedValue). t.flux) c.canonical.ensures.blocks) c.canonical.ensures.entries

pub returns-clause-canonical : goal.returns-clause-canonical
returns-clause-canonical g c = subst IsCanonicalTensor (sym c.canonical.ensures.blocks) (filled c.in_ok-moved.moved.blocks)
