use Rattle.std.proofs.Common.{[], take, sym, refl, ◌∙◌, subst, inl, inr, arith}
use Rattle.std.proofs.lemmas.Bool.{false≢true}
use Rattle.qn_net.specs.Refusals.{BadPlaceAt}
use Rattle.qn_net.specs.Seen.{IsSeen}
use Rattle.qn_net.proofs.LineLemmas.{step_none}
use Rattle.qn_net.proofs.OrderLemmas.{seen_none, seen_more, good_place, bad_place, lacking, not_lacking, seen_all, good_all}
use Rattle.qn_net.proofs.order.order_fault.Goals as goal

pub loop-i-init : goal.loop-i-init
loop-i-init c = record { good = λ k l. absurd (omega (arith, l)); seen = subst (IsSeen []) (sym c.in_ok-seen.ensures) seen_none }

pub returns-in-None : goal.returns-in-None
returns-in-None c =
    inl (record {
      here = bad_place c.args.table.now c.known.ensures c.args.order.now c.loop-i.i c.deref.result.now c.loop-i-test.true
          (subst (IsSeen (take c.loop-i.i c.args.order.now)) (sym c.deref.ensures.value) c.loop-i.invariant.seen) c.in-None.ensures;
      before = c.loop-i.invariant.good;
    })

pub loop-i-preserved : goal.loop-i-preserved
loop-i-preserved c =
    let e = c.in-Some.ensures in
    record {
      good = step_none (BadPlaceAt c.args.table.now c.args.order.now) c.loop-i.i c.loop-i.invariant.good
          (good_place c.args.table.now c.args.order.now c.loop-i.i c.in-Some.n c.deref.result.now e.0 e.1 e.2 e.3 e.4
          (subst (IsSeen (take c.loop-i.i c.args.order.now)) (sym c.deref.ensures.value) c.loop-i.invariant.seen));
      seen = seen_more c.args.order.now c.loop-i.i c.in-Some.n c.loop-i.seen.items c.loop-i-test.true e.0 e.2 c.loop-i.invariant.seen;
    }

pub returns-then-lacks : goal.returns-then-lacks
returns-then-lacks c =
    inr (
      good_all c.args.table.now c.args.order.now c.loop-i.i c.loop-i-test.false c.loop-i.invariant.good,
      refl,
      lacking c.args.table.now c.args.order.now c.deref-2.result.now
          (subst (IsSeen c.args.order.now) (sym c.deref-2.ensures.value) (seen_all c.args.order.now c.loop-i.i c.loop-i.seen.items c.loop-i-test.false c.loop-i.invariant.seen))
          (c.lacks.ensures.0 c.if-lacks.true),
    )

pub returns : goal.returns
returns c = (
  good_all c.args.table.now c.args.order.now c.loop-i.i c.loop-i-test.false c.loop-i.invariant.good,
  not_lacking c.args.table.now c.known.ensures c.args.order.now c.deref-2.result.now
      (subst (IsSeen c.args.order.now) (sym c.deref-2.ensures.value) (seen_all c.args.order.now c.loop-i.i c.loop-i.seen.items c.loop-i-test.false c.loop-i.invariant.seen))
      (λ w. false≢true (sym c.if-lacks.false ∙ c.lacks.ensures.1 w)),
)
