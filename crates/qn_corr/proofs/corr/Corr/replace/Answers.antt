use Rattle.std.proofs.Common.{◌≡◌, ◌≤◌, ◌-◌, List, lit<, length, sym, ◌∙◌, ap, subst, arith}
use Rattle.qn_plan.specs.Planned.{StepValue}
use Rattle.qn_engine.specs.Parts.{PartValue}
use Rattle.qn_corr.specs.Correlators.{CorrValue, IsClear, IsKept, IsRest, IsPutFault, with_site, tensor_on}
use Rattle.qn_corr.proofs.Replacing.{put_fault, place_in, high_in, changed_in, group_in, legs_in, flux_in, back_in}
use Rattle.qn_corr.proofs.corr.Corr.replace.Goals as goal

pub fitting-requires : goal.fitting-requires
fitting-requires g c =
    let v = c.self.inside.chains in
    let high : c.args.site ≤ length v.bra.tensors = subst (λ (d : CorrValue). c.args.site ≤ length d.bra.tensors) (sym c.self.view_is) c.requires.high in
    let group : c.args.tensor.group ≡ v.bra.group = c.requires.group ∙ sym (ap (λ (d : CorrValue). d.bra.group) c.self.view_is) in
    (lit< tt, (lit< tt, omega (arith, c.requires.low, high)))

pub put-requires : goal.put-requires
put-requires g c =
    let v = c.self.inside.chains in
    let high : c.args.site ≤ length v.bra.tensors = subst (λ (d : CorrValue). c.args.site ≤ length d.bra.tensors) (sym c.self.view_is) c.requires.high in
    let group : c.args.tensor.group ≡ v.bra.group = c.requires.group ∙ sym (ap (λ (d : CorrValue). d.bra.group) c.self.view_is) in
    (lit< tt, (lit< tt, (c.requires.low, (high, (group, (c.in-Ok.ensures.legs, c.in-Ok.ensures.flux))))))

pub value_again-requires-after_bounds : goal.value_again-requires-after_bounds
value_again-requires-after_bounds g c = λ κs h.
    let v = c.self.inside.chains in
    let high : c.args.site ≤ length v.bra.tensors = subst (λ (d : CorrValue). c.args.site ≤ length d.bra.tensors) (sym c.self.view_is) c.requires.high in
    let group : c.args.tensor.group ≡ v.bra.group = c.requires.group ∙ sym (ap (λ (d : CorrValue). d.bra.group) c.self.view_is) in (
      lit< tt,
      (
        lit< tt,
        (
          c.requires.some,
          (
            c.requires.few,
            (
              place_in v c.known.ensures.matched c.known.ensures.bra c.known.ensures.op c.known.ensures.ket c.args.who c.args.site c.requires.low high c.args.tensor c.put.new.self c.put.ensures,
              (v, c.self.inside.value, subst (λ (plan : List StepValue). IsKept v plan c.self.inside.kept.items c.self.inside.value) (sym c.as_slice.ensures.value) c.self.invariant, changed_in v c.known.ensures.matched c.known.ensures.bra c.known.ensures.op c.known.ensures.ket c.args.who c.args.site c.requires.low high c.args.tensor c.put.new.self c.put.ensures group c.in-Ok.ensures.legs c.in-Ok.ensures.flux),
            ),
          ),
        ),
      ),
    )

pub put-requires-in-Err-value_again : goal.put-requires-in-Err-value_again
put-requires-in-Err-value_again g c =
    let v = c.self.inside.chains in
    let high : c.args.site ≤ length v.bra.tensors = subst (λ (d : CorrValue). c.args.site ≤ length d.bra.tensors) (sym c.self.view_is) c.requires.high in
    let group : c.args.tensor.group ≡ v.bra.group = c.requires.group ∙ sym (ap (λ (d : CorrValue). d.bra.group) c.self.view_is) in (
      lit< tt,
      (
        lit< tt,
        (
          c.requires.low,
          (
            high_in v c.known.ensures.matched c.known.ensures.bra c.known.ensures.op c.known.ensures.ket c.args.who c.args.site c.requires.low high c.args.tensor c.put.new.self c.put.ensures,
            (
              group_in v c.known.ensures.matched c.known.ensures.bra c.known.ensures.op c.known.ensures.ket c.args.who c.args.site c.requires.low high c.args.tensor c.put.new.self c.put.ensures c.in-Ok.earlier c.in-Ok.ensures.earlier,
              (
                legs_in v c.known.ensures.matched c.known.ensures.bra c.known.ensures.op c.known.ensures.ket c.args.who c.args.site c.requires.low high c.args.tensor c.put.new.self c.put.ensures c.in-Ok.earlier c.in-Ok.ensures.earlier c.in-Ok.ensures.legs,
                flux_in v c.known.ensures.matched c.known.ensures.bra c.known.ensures.op c.known.ensures.ket c.args.who c.args.site c.requires.low high c.args.tensor c.put.new.self c.put.ensures c.in-Ok.earlier c.in-Ok.ensures.earlier c.in-Ok.ensures.flux,
              ),
            ),
          ),
        ),
      ),
    )

pub invariant_of-self : goal.invariant_of-self
invariant_of-self g c =
    let v = c.self.inside.chains in
    let high : c.args.site ≤ length v.bra.tensors = subst (λ (d : CorrValue). c.args.site ≤ length d.bra.tensors) (sym c.self.view_is) c.requires.high in
    let group : c.args.tensor.group ≡ v.bra.group = c.requires.group ∙ sym (ap (λ (d : CorrValue). d.bra.group) c.self.view_is) in
    let before = subst (λ (plan : List StepValue). IsKept v plan c.self.inside.kept.items c.self.inside.value) (sym c.as_slice.ensures.value) c.self.invariant in
    subst (λ (plan : List StepValue). IsKept c.put.new.self plan c.value_again.new.kept.items c.in-Ok-value_again.value) c.as_slice.ensures.value
    (c.in-Ok-value_again.ensures.kept v c.self.inside.value before (changed_in v c.known.ensures.matched c.known.ensures.bra c.known.ensures.op c.known.ensures.ket c.args.who c.args.site c.requires.low high c.args.tensor c.put.new.self c.put.ensures group c.in-Ok.ensures.legs c.in-Ok.ensures.flux))

pub invariant_of-self-in-Err-value_again : goal.invariant_of-self-in-Err-value_again
invariant_of-self-in-Err-value_again g c =
    let v = c.self.inside.chains in
    let high : c.args.site ≤ length v.bra.tensors = subst (λ (d : CorrValue). c.args.site ≤ length d.bra.tensors) (sym c.self.view_is) c.requires.high in
    let group : c.args.tensor.group ≡ v.bra.group = c.requires.group ∙ sym (ap (λ (d : CorrValue). d.bra.group) c.self.view_is) in
    subst (λ (d : CorrValue). IsKept d c.self.inside.plan.items c.value_again.new.kept.items c.self.inside.value) (sym (back_in v c.known.ensures.matched c.known.ensures.bra c.known.ensures.op c.known.ensures.ket c.args.who c.args.site c.requires.low high c.args.tensor c.put.new.self c.put.ensures c.in-Ok.earlier c.in-Ok.ensures.earlier c.put-in-Err-value_again.new.self c.put-in-Err-value_again.ensures))
    (subst (λ (ps : List PartValue). IsKept v c.self.inside.plan.items ps c.self.inside.value) (sym c.in-Err-value_again.ensures.same) c.self.invariant)

pub returns-in-Ok-value_again-clause-ok : goal.returns-in-Ok-value_again-clause-ok
returns-in-Ok-value_again-clause-ok g c =
    c.put.ensures ∙ ap (λ (d : CorrValue). with_site d c.args.who (c.args.site - 1) c.args.tensor) c.self.view_is

pub returns-in-Ok-value_again-clause-same : goal.returns-in-Ok-value_again-clause-same
returns-in-Ok-value_again-clause-same g c =
    subst (λ (d : CorrValue). (c.args.tensor.legs ≡ (tensor_on d c.args.who (c.args.site - 1)).legs) × (c.args.tensor.flux ≡ (tensor_on d c.args.who (c.args.site - 1)).flux)) c.self.view_is (c.in-Ok.ensures.legs, c.in-Ok.ensures.flux)

pub returns-in-Ok-value_again-clause-clear : goal.returns-in-Ok-value_again-clause-clear
returns-in-Ok-value_again-clause-clear g c =
    subst IsClear (c.put.ensures ∙ ap (λ (d : CorrValue). with_site d c.args.who (c.args.site - 1) c.args.tensor) c.self.view_is) c.in-Ok-value_again.ensures.clear

pub returns-in-Err-value_again-clause-refused : goal.returns-in-Err-value_again-clause-refused
returns-in-Err-value_again-clause-refused g c =
    let v = c.self.inside.chains in
    let high : c.args.site ≤ length v.bra.tensors = subst (λ (d : CorrValue). c.args.site ≤ length d.bra.tensors) (sym c.self.view_is) c.requires.high in
    let group : c.args.tensor.group ≡ v.bra.group = c.requires.group ∙ sym (ap (λ (d : CorrValue). d.bra.group) c.self.view_is) in
    back_in v c.known.ensures.matched c.known.ensures.bra c.known.ensures.op c.known.ensures.ket c.args.who c.args.site c.requires.low high c.args.tensor c.put.new.self c.put.ensures c.in-Ok.earlier c.in-Ok.ensures.earlier c.put-in-Err-value_again.new.self c.put-in-Err-value_again.ensures ∙ c.self.view_is

pub returns-in-Err-clause-err : goal.returns-in-Err-clause-err
returns-in-Err-clause-err g c =
    subst (λ (d : CorrValue). IsPutFault d c.args.who (c.args.site - 1) c.args.tensor c.in-Err.fault) c.self.view_is c.in-Err.ensures.err

pub returns-in-Err-value_again-clause-err : goal.returns-in-Err-value_again-clause-err
returns-in-Err-value_again-clause-err g c =
    subst (λ (d : CorrValue). IsPutFault d c.args.who (c.args.site - 1) c.args.tensor c.in-Err-value_again.fault) c.self.view_is
    (put_fault c.self.inside.chains c.args.who (c.args.site - 1) c.args.tensor c.put.new.self c.in-Err-value_again.fault c.put.ensures c.in-Ok.ensures.legs c.in-Ok.ensures.flux c.in-Err-value_again.ensures.err)

pub returns-in-Ok-value_again-clause-steps : goal.returns-in-Ok-value_again-clause-steps
returns-in-Ok-value_again-clause-steps g c = λ k r.
    let v = c.self.inside.chains in
    let high : c.args.site ≤ length v.bra.tensors = subst (λ (d : CorrValue). c.args.site ≤ length d.bra.tensors) (sym c.self.view_is) c.requires.high in
    let group : c.args.tensor.group ≡ v.bra.group = c.requires.group ∙ sym (ap (λ (d : CorrValue). d.bra.group) c.self.view_is) in
    let rest : IsRest v (c.args.site - 1) k = subst (λ (d : CorrValue). IsRest d (c.args.site - 1) k) (sym c.self.view_is) r in
    let before = subst (λ (plan : List StepValue). IsKept v plan c.self.inside.kept.items c.self.inside.value) (sym c.as_slice.ensures.value) c.self.invariant in
    c.value_again.ensures.steps v c.self.inside.value k before (changed_in v c.known.ensures.matched c.known.ensures.bra c.known.ensures.op c.known.ensures.ket c.args.who c.args.site c.requires.low high c.args.tensor c.put.new.self c.put.ensures group c.in-Ok.ensures.legs c.in-Ok.ensures.flux) rest

pub returns-in-Err-value_again-clause-steps : goal.returns-in-Err-value_again-clause-steps
returns-in-Err-value_again-clause-steps g c = λ k r.
    let v = c.self.inside.chains in
    let high : c.args.site ≤ length v.bra.tensors = subst (λ (d : CorrValue). c.args.site ≤ length d.bra.tensors) (sym c.self.view_is) c.requires.high in
    let group : c.args.tensor.group ≡ v.bra.group = c.requires.group ∙ sym (ap (λ (d : CorrValue). d.bra.group) c.self.view_is) in
    let rest : IsRest v (c.args.site - 1) k = subst (λ (d : CorrValue). IsRest d (c.args.site - 1) k) (sym c.self.view_is) r in
    let before = subst (λ (plan : List StepValue). IsKept v plan c.self.inside.kept.items c.self.inside.value) (sym c.as_slice.ensures.value) c.self.invariant in
    c.value_again.ensures.steps v c.self.inside.value k before (changed_in v c.known.ensures.matched c.known.ensures.bra c.known.ensures.op c.known.ensures.ket c.args.who c.args.site c.requires.low high c.args.tensor c.put.new.self c.put.ensures group c.in-Ok.ensures.legs c.in-Ok.ensures.flux) rest
