use Rattle.std.proofs.Common.{◌≡◌, ℤ, List, map, sym, ◌∙◌, ap, subst}
use Rattle.std.specs.List.{All}
use Rattle.qn_charge.specs.Firsts.{IsFirst}
use Rattle.qn_value.specs.Networks.{End}
use Rattle.qn_net.specs.Members.{LabelledMember, IsHeld, placed_member, ends_of_members}
use Rattle.qn_net.specs.Refusals.{AreLabelled, IsGoodOrder, AreGoodTwists, BadTwistAt, IsChoiceFault, IsNetFault, IsFaultless, order_or, given}
use Rattle.qn_net.specs.NetworkValues.{IsWellFormed}
use Rattle.qn_net.proofs.WellFormed.{well_formed}
use Rattle.qn_net.proofs.LabelledLemmas.{choice_fault}
use Rattle.qn_net.proofs.network.Network.new.Goals as goal

pub returns-in-Err-clause-err : goal.returns-in-Err-clause-err
returns-in-Err-clause-err g c =
    subst (λ (ms : List LabelledMember). IsNetFault ms (given c.args.order) c.args.twist.items c.in-Err.fault) c.deref-2.ensures.value (c.in-Err.ensures.err (given c.args.order) c.args.twist.items)

pub returns-in-Err-chosen_order-clause-err : goal.returns-in-Err-chosen_order-clause-err
returns-in-Err-chosen_order-clause-err g c =
    choice_fault c.args.tensors.items (given c.args.order) c.args.twist.items c.in-Err-chosen_order.fault
    (subst AreLabelled c.deref-2.ensures.value c.in-Ok.ensures.labelled)
    (subst (λ (es : List End). IsChoiceFault es (given c.args.order) c.in-Err-chosen_order.fault) (c.in-Ok.ensures.ok ∙ ap ends_of_members c.deref-2.ensures.value)
    c.in-Err-chosen_order.ensures.err)

pub returns-in-Some-clause-err : goal.returns-in-Some-clause-err
returns-in-Some-clause-err g c =
    let es : c.in-Ok.table ≡ ends_of_members c.args.tensors.items = c.in-Ok.ensures.ok ∙ ap ends_of_members c.deref-2.ensures.value in (
      subst AreLabelled c.deref-2.ensures.value c.in-Ok.ensures.labelled,
      subst (λ (xs : List End). IsGoodOrder xs (given c.args.order)) es c.in-Ok-chosen_order.ensures.good,
      subst (λ (xs : List End). IsFirst (BadTwistAt xs c.args.twist.items) c.in-Some.place) es
          (subst (λ (ls : List ℤ). IsFirst (BadTwistAt c.in-Ok.table ls) c.in-Some.place) c.deref-3.ensures.value c.in-Some.ensures),
    )

pub returns-in-None-clause-faultless : goal.returns-in-None-clause-faultless
returns-in-None-clause-faultless g c =
    let es : c.in-Ok.table ≡ ends_of_members c.args.tensors.items = c.in-Ok.ensures.ok ∙ ap ends_of_members c.deref-2.ensures.value in (
      subst AreLabelled c.deref-2.ensures.value c.in-Ok.ensures.labelled,
      subst (λ (xs : List End). IsGoodOrder xs (given c.args.order)) es c.in-Ok-chosen_order.ensures.good,
      subst (λ (xs : List End). AreGoodTwists xs c.args.twist.items) es (subst (AreGoodTwists c.in-Ok.table) c.deref-3.ensures.value c.in-None.ensures),
    )

pub invariant_of-result : goal.invariant_of-result
invariant_of-result g c =
    let es : c.in-Ok.table ≡ ends_of_members c.args.tensors.items = c.in-Ok.ensures.ok ∙ ap ends_of_members c.deref-2.ensures.value in
    let fine : IsFaultless c.args.tensors.items (given c.args.order) c.args.twist.items = (
      subst AreLabelled c.deref-2.ensures.value c.in-Ok.ensures.labelled,
      subst (λ (xs : List End). IsGoodOrder xs (given c.args.order)) es c.in-Ok-chosen_order.ensures.good,
      subst (λ (xs : List End). AreGoodTwists xs c.args.twist.items) es (subst (AreGoodTwists c.in-Ok.table) c.deref-3.ensures.value c.in-None.ensures),
    ) in
    let held : All (λ (m : LabelledMember). IsHeld m.member) c.args.tensors.items = subst (λ (ms : List LabelledMember). All (λ (m : LabelledMember). IsHeld m.member) ms) c.deref.ensures.value c.known_members.ensures in (
      subst (λ (ls : List ℤ). IsWellFormed (record { group = c.args.group; members = map placed_member c.args.tensors.items; order = ls; twists = c.args.twist.items }))
          (sym (c.in-Ok-chosen_order.ensures.ok ∙ ap (λ (xs : List End). order_or xs (given c.args.order)) es))
          (well_formed c.args.group c.args.tensors.items (given c.args.order) c.args.twist.items c.known.ensures.group c.requires.some c.requires.members held fine),
      c.requires.members,
      c.requires.few,
    )
