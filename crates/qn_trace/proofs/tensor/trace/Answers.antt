use Rattle.std.proofs.Common.{rules, ◌≡◌, ◌<◌, ◌∙◌, ◌∷◌, [], ap, sym, subst, length, lit<, List, None}
use Rattle.std.specs.List.{All}
use Rattle.qn_index.specs.Legs.{LegValue}
use Rattle.qn_index.specs.Tuples.{admitted}
use Rattle.qn_value.specs.Local.{picked, no_leg, open_legs}
use Rattle.qn_value.specs.Magnitudes.{first_passing, trace_magnitude}
use Rattle.qn_block.specs.Blocked.{tensor_of}
use Rattle.qn_block.specs.Steps.{IsStepFault}
use Rattle.qn_strides.specs.Strides.{open_places, goal_places}
use Rattle.qn_strides.proofs.Opens.{left_legs}
use Rattle.qn_trace.proofs.Filling.{open_below}
use Rattle.qn_trace.proofs.Made.{IsLeft, is_left, made_at, result_is}
use Rattle.qn_trace.proofs.Results.{open_is}
use Rattle.qn_trace.proofs.tensor.trace.Goals as goal

pub legs_at-requires : goal.legs_at-requires
legs_at-requires g c =
    let t = c.args.t.now in
    let cs = c.args.couples.now in
    let places : c.deref-2.result.now ≡ open_places cs (length t.legs) = c.deref-2.ensures.value ∙ c.in_ok-places.ensures ∙ ap (λ (ks : List LegValue). open_places cs (length ks)) c.legs.ensures in
    (lit< tt, subst (λ (ks : List LegValue). All (λ p. p < length ks) c.deref-2.result.now) (sym c.legs-3.ensures) (subst (All (λ p. p < length t.legs)) (sym places) (open_below t.legs cs)))

pub blocks_of-requires : goal.blocks_of-requires
blocks_of-requires g c =
    let t = c.args.t.now in
    let cs = c.args.couples.now in
    let places : c.in_ok-places.places.items ≡ open_places cs (length t.legs) = c.in_ok-places.ensures ∙ ap (λ (ks : List LegValue). open_places cs (length ks)) c.legs.ensures in
    let left : c.deref-5.result.now ≡ picked no_leg t.legs c.in_ok-places.places.items =
    c.deref-5.ensures.value ∙ c.in_ok-left.ensures ∙ (λ i. picked no_leg (c.legs-3.ensures i) (c.deref-2.ensures.value i)) in
    let is : IsLeft t c.deref-5.result.now = is_left t cs c.deref-5.result.now c.known.ensures c.requires (left ∙ ap (picked no_leg t.legs) places) in (
      lit< tt,
      (
        lit< tt,
        (
          c.requires,
          (
            c.deref-3.ensures.value ∙ c.in_ok-goal.ensures ∙ ap (λ (ks : List LegValue). goal_places ks cs) c.legs-2.ensures,
            (c.deref-4.ensures.value ∙ places, (left ∙ ap (picked no_leg t.legs) (sym c.deref-4.ensures.value), (is.charges, is.shape))),
          ),
        ),
      ),
    )

pub returns-in_err-blocks-clause-err : goal.returns-in_err-blocks-clause-err
returns-in_err-blocks-clause-err g c =
    let t = c.args.t.now in
    let cs = c.args.couples.now in
    let places : c.in_ok-places.places.items ≡ open_places cs (length t.legs) = c.in_ok-places.ensures ∙ ap (λ (ks : List LegValue). open_places cs (length ks)) c.legs.ensures in
    let left : c.deref-5.result.now ≡ open_legs (tensor_of t ∷ []) cs =
    c.deref-5.ensures.value ∙ c.in_ok-left.ensures ∙ (λ i. picked no_leg (c.legs-3.ensures i) (c.deref-2.ensures.value i)) ∙ ap (picked no_leg t.legs) places ∙ sym (open_is (tensor_of t) cs) in
    let fault : IsStepFault (first_passing (trace_magnitude (tensor_of t) cs) c.deref-5.result.now (admitted t.group c.deref-5.result.now t.flux)) c.in_err-blocks.field-0.0 = search (rules, c.in_err-blocks.ensures.err) in
    let there : IsStepFault (first_passing (trace_magnitude (tensor_of t) cs) (open_legs (tensor_of t ∷ []) cs) (admitted t.group (open_legs (tensor_of t ∷ []) cs) t.flux)) c.in_err-blocks.field-0.0 =
    subst (λ ks. IsStepFault (first_passing (trace_magnitude (tensor_of t) cs) ks (admitted t.group ks t.flux)) c.in_err-blocks.field-0.0) left fault in
    search (rules, there)

pub of_blocks-requires : goal.of_blocks-requires
of_blocks-requires g c =
    let t = c.args.t.now in
    let cs = c.args.couples.now in
    let places : c.in_ok-places.places.items ≡ open_places cs (length t.legs) = c.in_ok-places.ensures ∙ ap (λ (ks : List LegValue). open_places cs (length ks)) c.legs.ensures in
    let left : c.in_ok-left.left.items ≡ left_legs t.legs cs = c.in_ok-left.ensures ∙ (λ i. picked no_leg (c.legs-3.ensures i) (c.deref-2.ensures.value i)) ∙ ap (picked no_leg t.legs) places in
    let b = made_at t cs c.group.result.now c.in_ok-left.left.items c.flux.result.now c.deref-5.result.now c.in_ok-blocks.blocks.items c.known.ensures c.requires c.group.ensures left c.flux.ensures c.deref-5.ensures.value c.in_ok-blocks.ensures.blocks c.in_ok-blocks.ensures.ascending in
    (lit< tt, (lit< tt, (lit< tt, (lit< tt, (b.charges, (b.flux, (b.shape, (b.blocks, b.ascending))))))))

pub returns-clause-value : goal.returns-clause-value
returns-clause-value g c =
    let t = c.args.t.now in
    let cs = c.args.couples.now in
    let places : c.in_ok-places.places.items ≡ open_places cs (length t.legs) = c.in_ok-places.ensures ∙ ap (λ (ks : List LegValue). open_places cs (length ks)) c.legs.ensures in
    let left : c.deref-5.result.now ≡ left_legs t.legs cs = c.deref-5.ensures.value ∙ c.in_ok-left.ensures ∙ (λ i. picked no_leg (c.legs-3.ensures i) (c.deref-2.ensures.value i)) ∙ ap (picked no_leg t.legs) places in
    result_is t cs c.deref-5.result.now c.in_ok-blocks.blocks.items c.of_blocks.result c.known.ensures c.requires left c.in_ok-blocks.ensures.blocks c.in_ok-blocks.ensures.ascending c.in_ok-blocks.ensures.entries
    (cc (c.of_blocks.ensures, c.group.ensures, c.deref-5.ensures.value, c.flux.ensures))

pub returns-clause-clear : goal.returns-clause-clear
returns-clause-clear g c =
    let t = c.args.t.now in
    let cs = c.args.couples.now in
    let places : c.in_ok-places.places.items ≡ open_places cs (length t.legs) = c.in_ok-places.ensures ∙ ap (λ (ks : List LegValue). open_places cs (length ks)) c.legs.ensures in
    let left : c.deref-5.result.now ≡ open_legs (tensor_of t ∷ []) cs =
    c.deref-5.ensures.value ∙ c.in_ok-left.ensures ∙ (λ i. picked no_leg (c.legs-3.ensures i) (c.deref-2.ensures.value i)) ∙ ap (picked no_leg t.legs) places ∙ sym (open_is (tensor_of t) cs) in
    subst (λ ks. first_passing (trace_magnitude (tensor_of t) cs) ks (admitted t.group ks t.flux) ≡ None) left c.in_ok-blocks.ensures.clear
