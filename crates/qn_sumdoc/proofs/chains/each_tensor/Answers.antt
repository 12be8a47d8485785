use Rattle.std.proofs.Common.{rules, ◌≡◌, ◌+◌, ◌-◌, ◌++◌, take, drop, length, map, sym, ap, subst, ◌∙◌}
use Rattle.std.specs.List.{All}
use Rattle.std.proofs.lemmas.List.Elements.{All-push}
use Rattle.serde_json.specs.View.{view}
use Rattle.qn_parts.specs.Tensors.{tensor_fault, tensor_of}
use Rattle.qn_doc.proofs.Loops.{walk_next, made_next}
use Rattle.qn_sumdoc.specs.Chains.{IsStateTensor}
use Rattle.qn_sumdoc.proofs.chains.each_tensor.Goals as goal

pub loop-rest-preserved : goal.loop-rest-preserved
loop-rest-preserved g c =
    let fs = c.args.group.now in
    let base = c.args.base in
    let place : c.in-Some.place ≡ c.loop-rest.before + 1 = search rules in
    let read = c.in_ok-tensor_at.ensures in
    record {
      walk = walk_next (λ k t. tensor_fault fs (base + k) t) (c.loop-rest.before + 1) c.in-Some.place c.loop-rest.rest.now c.v-item.result c.in-len1-up.len_at_least c.v-item.is place read.0 ∙ c.loop-rest.invariant.walk;
      made = ap (λ xs. xs ++ map (tensor_of fs) (map view (take (length c.loop-rest.rest.now - 1) (drop 1 c.loop-rest.rest.now)))) c.in_ok-push.ensures.items
          ∙ (made_next (tensor_of fs) c.loop-rest.made.items c.in_ok-tensor_at.field-0 c.loop-rest.rest.now c.v-item.result c.in-len1-up.len_at_least c.v-item.is read.1.0 ∙ c.loop-rest.invariant.made);
      each = subst (All (IsStateTensor fs)) (sym c.in_ok-push.ensures.items) (All-push (IsStateTensor fs) _ _ c.loop-rest.invariant.each read.1.1);
    }
