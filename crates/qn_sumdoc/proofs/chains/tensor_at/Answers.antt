use Rattle.std.proofs.Common.{rules, ◌≡◌, ◌+◌, ap, subst}
use Rattle.std.specs.Prelude.{None}
use Rattle.serde_json.specs.View.{view}
use Rattle.qn_parts.specs.Tensors.{tensor_fault}
use Rattle.qn_sumdoc.proofs.StateChains.{state_tensor}
use Rattle.qn_sumdoc.proofs.chains.tensor_at.Goals as goal

pub returns : goal.returns
returns g c =
    let fs = c.args.group.now in
    let number : c.in-Some.number ≡ c.args.base + c.args.place = search rules in
    let read = c.in_ok-tensor.ensures in
    (subst (λ k. tensor_fault fs k (view c.args.v.now) ≡ None) number read.0, (read.1.0, state_tensor fs c.in_ok-tensor.tensor (ap (λ t. t.group) read.1.0) read.1.1))
