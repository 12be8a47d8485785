use Rattle.std.proofs.Common.{◌≡◌, ◌<◌, pos, true, false, List, length, sym, ◌∙◌, ap, subst, arith}
use Rattle.std.proofs.lemmas.Bool.{false≢true}
use Rattle.qn_value.specs.Networks.{End}
use Rattle.qn_net.specs.Members.{slots_of_members, ends_of_members}
use Rattle.qn_net.specs.Refusals.{tally, legs_with, HasUnequalSectors}
use Rattle.qn_net.specs.Tables.{end_at}
use Rattle.qn_net.proofs.LineLemmas.{stands_not}
use Rattle.qn_net.proofs.MeetingLemmas.{one_each, unequal_off, equal_all, unequal_here, tells_apart}
use Rattle.qn_net.proofs.meeting.has_unequal_sectors.Goals as goal

pub returns-then-not-has_positive : goal.returns-then-not-has_positive
returns-then-not-has_positive g c =
    let none : legs_with (pos c.args.n) c.args.table.now ≡ 0 = stands_not (legs_with (pos c.args.n) c.args.table.now) c.has_positive.result c.if-not-has_positive.true c.has_positive.ensures.1 in (
      (λ t. absurd (false≢true t)),
      (λ w. absurd (unequal_off (slots_of_members c.args.tensors.now) c.args.n (ap (legs_with (pos c.args.n)) (sym c.requires.table) ∙ none) w)),
    )

pub positive_spot-requires-clause-stands : goal.positive_spot-requires-clause-stands
positive_spot-requires-clause-stands g c =
    let s : 0 < legs_with (pos c.args.n) (ends_of_members c.args.tensors.now) = subst (λ (es : List End). 0 < legs_with (pos c.args.n) es) c.requires.table (c.has_positive.ensures.0 c.if-not-has_positive.false) in
    let o = one_each (ends_of_members c.args.tensors.now) c.args.n c.requires.opposite.0.1 c.requires.opposite.1 s in
    subst (λ (es : List End). 0 < tally (record { label = pos c.args.n; inward = true }) es) (sym c.requires.table) (omega (arith, o.0))

pub positive_spot-requires-2-clause-stands : goal.positive_spot-requires-2-clause-stands
positive_spot-requires-2-clause-stands g c =
    let s : 0 < legs_with (pos c.args.n) (ends_of_members c.args.tensors.now) = subst (λ (es : List End). 0 < legs_with (pos c.args.n) es) c.requires.table (c.has_positive.ensures.0 c.if-not-has_positive.false) in
    let o = one_each (ends_of_members c.args.tensors.now) c.args.n c.requires.opposite.0.1 c.requires.opposite.1 s in
    subst (λ (es : List End). 0 < tally (record { label = pos c.args.n; inward = false }) es) (sym c.requires.table) (omega (arith, o.1))

pub returns : goal.returns
returns g c =
    let ss = slots_of_members c.args.tensors.now in
    let p = c.positive_spot.result in
    let q = c.positive_spot-2.result in
    let s : 0 < legs_with (pos c.args.n) (ends_of_members c.args.tensors.now) = subst (λ (es : List End). 0 < legs_with (pos c.args.n) es) c.requires.table (c.has_positive.ensures.0 c.if-not-has_positive.false) in
    let o = one_each (ends_of_members c.args.tensors.now) c.args.n c.requires.opposite.0.1 c.requires.opposite.1 s in
    let lp = subst (λ (es : List End). c.positive_spot.result < length es) c.requires.table c.positive_spot.ensures.within in
    let lq = subst (λ (es : List End). c.positive_spot-2.result < length es) c.requires.table c.positive_spot-2.ensures.within in
    let ap_ = ap (λ (es : List End). end_at es c.positive_spot.result) (sym c.requires.table) ∙ c.positive_spot.ensures.here in
    let aq = ap (λ (es : List End). end_at es c.positive_spot-2.result) (sym c.requires.table) ∙ c.positive_spot-2.ensures.here in
    tells_apart c.same_sectors.result c.sectors_of-inner.result.now c.sectors_of-outer.result.now (HasUnequalSectors (slots_of_members c.args.tensors.now) c.args.n)
    c.same_sectors.ensures
    (λ e. equal_all (slots_of_members c.args.tensors.now) c.args.n c.positive_spot.result c.positive_spot-2.result o lp lq ap_ aq (sym c.sectors_of-inner.ensures ∙ e ∙ c.sectors_of-outer.ensures))
    (λ d. unequal_here (slots_of_members c.args.tensors.now) c.args.n c.positive_spot.result c.positive_spot-2.result o lp lq ap_ aq
    (λ e. d (c.sectors_of-inner.ensures ∙ e ∙ sym c.sectors_of-outer.ensures)))
