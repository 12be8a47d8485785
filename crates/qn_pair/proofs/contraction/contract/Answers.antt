use Rattle.std.proofs.Common.{rules, ◌≡◌, refl, sym, ◌∙◌, ap, subst, lit<, ℕ, List}
use Rattle.std.specs.List.{All}
use Rattle.qn_charge.specs.Charges.{sum_charge}
use Rattle.qn_value.specs.Tensors.{BlockValue, IsBlock, AreAscending, entry_in}
use Rattle.qn_block.specs.Blocked.{MeetFlux}
use Rattle.qn_block.specs.Steps.{IsStepFault}
use Rattle.qn_pair.specs.Steps.{result_legs, result_flux, passing_place, IsEntry}
use Rattle.qn_pair.specs.Jobs.{JobValue, IsKnown, job, legs_of, passing_of_job}
use Rattle.qn_pair.proofs.Called.{are_added, blocked_result, called}
use Rattle.qn_pair.proofs.Kept.{kept_ascend, kept_are_blocks, kept_answer}
use Rattle.qn_pair.proofs.contraction.contract.Goals as goal

pub add-flux-requires : goal.add-flux-requires
add-flux-requires g c =
    let f = are_added c.args.a.now c.args.b.now c.args.shared.now c.group.result.now c.flux.result.now c.flux-2.result.now c.group.ensures c.flux.ensures c.flux-2.ensures c.known.ensures c.known-2.ensures c.requires.pair in
    (lit< tt, (lit< tt, (f.first, (f.second, f.within))))

pub of_blocks-requires : goal.of_blocks-requires
of_blocks-requires g c =
    let j : JobValue = job c.args.a.now c.args.b.now c.args.shared.now c.args.between_odd in
    let h : IsKnown j = record { first = c.known.ensures; second = c.known-2.ensures; pair = c.requires.pair } in
    let left : c.into_left-left.result.items ≡ result_legs c.args.a.now c.args.b.now c.args.shared.now = c.into_left-left.ensures ∙ ap legs_of c.in_ok-frame.ensures in
    let flux : c.add-flux.result ≡ result_flux c.args.a.now c.args.b.now = c.add-flux.ensures.value ∙ (λ i. sum_charge (c.group.ensures i) (c.flux.ensures i) (c.flux-2.ensures i)) in
    let b = blocked_result c.args.a.now c.args.b.now c.args.shared.now c.known.ensures c.known-2.ensures c.requires.pair c.group-2.result.now c.into_left-left.result.items (result_legs c.args.a.now c.args.b.now c.args.shared.now) c.add-flux.result c.in_ok-blocks.blocks.items c.group-2.ensures left refl flux
    (subst (λ (bs : List BlockValue). All (IsBlock c.args.a.now.group (result_legs c.args.a.now c.args.b.now c.args.shared.now) (result_flux c.args.a.now c.args.b.now)) bs) (sym c.in_ok-blocks.ensures) (kept_are_blocks j h))
    (subst AreAscending (sym c.in_ok-blocks.ensures) (kept_ascend j h)) in
    (lit< tt, (lit< tt, (lit< tt, (lit< tt, (b.charges, (b.flux, (b.shape, (b.blocks, b.ascending))))))))

pub returns-clause-value : goal.returns-clause-value
returns-clause-value g c =
    let j : JobValue = job c.args.a.now c.args.b.now c.args.shared.now c.args.between_odd in
    let h : IsKnown j = record { first = c.known.ensures; second = c.known-2.ensures; pair = c.requires.pair } in
    let left : c.into_left-left.result.items ≡ result_legs c.args.a.now c.args.b.now c.args.shared.now = c.into_left-left.ensures ∙ ap legs_of c.in_ok-frame.ensures in
    let flux : c.add-flux.result ≡ result_flux c.args.a.now c.args.b.now = c.add-flux.ensures.value ∙ (λ i. sum_charge (c.group.ensures i) (c.flux.ensures i) (c.flux-2.ensures i)) in
    called c.args.a.now c.args.b.now c.args.shared.now c.args.between_odd c.known.ensures c.known-2.ensures c.requires.pair c.group-2.result.now c.into_left-left.result.items (result_legs c.args.a.now c.args.b.now c.args.shared.now) c.add-flux.result c.in_ok-blocks.blocks.items c.of_blocks.result
    c.group-2.ensures left refl flux
    (subst (λ (bs : List BlockValue). All (IsBlock c.args.a.now.group (result_legs c.args.a.now c.args.b.now c.args.shared.now) (result_flux c.args.a.now c.args.b.now)) bs) (sym c.in_ok-blocks.ensures) (kept_are_blocks j h))
    (subst AreAscending (sym c.in_ok-blocks.ensures) (kept_ascend j h))
    (subst (λ (bs : List BlockValue). (xs : List ℕ) → MeetFlux c.args.a.now.group (result_legs c.args.a.now c.args.b.now c.args.shared.now) (result_flux c.args.a.now c.args.b.now) xs → IsEntry c.args.a.now c.args.b.now c.args.shared.now c.args.between_odd xs (entry_in (result_legs c.args.a.now c.args.b.now c.args.shared.now) bs xs)) (sym c.in_ok-blocks.ensures) (kept_answer j h))
    c.of_blocks.ensures

pub returns-in_err-done-clause-err : goal.returns-in_err-done-clause-err
returns-in_err-done-clause-err g c =
    let first : passing_of_job c.in_ok-frame.frame ≡ passing_place c.args.a.now c.args.b.now c.args.shared.now = ap passing_of_job c.in_ok-frame.ensures in
    let there : IsStepFault (passing_place c.args.a.now c.args.b.now c.args.shared.now) c.in_err-done.field-0.0 = subst (λ p. IsStepFault p c.in_err-done.field-0.0) first c.in_err-done.ensures.err in
    search (rules, there)

pub returns-clause-clear : goal.returns-clause-clear
returns-clause-clear g c = sym (ap passing_of_job c.in_ok-frame.ensures) ∙ c.in_ok-done.ensures.clear
