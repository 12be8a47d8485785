use Rattle.std.proofs.Common.{arith, ◌≡◌, ◌∙◌, ◌+◌, ◌∷◌, ap, sym, subst, drop, List}
use Rattle.qn_index.specs.Weights.{WeightValue}
use Rattle.std.proofs.lemmas.List.{drop_more, drop_all}
use Rattle.qn_index.proofs.Counts.{IsJoined, join_first, join_same, join_other, joined_all}
use Rattle.qn_index.proofs.table.joined.Goals as goal
use Rattle.qn_index.proofs.table.joined.Goals.{then-same_charge, else-same_charge+in_ok-push}

pub loop-w-init : goal.loop-w-init
loop-w-init g c = join_first c.args.rows.now c.new-out.result.items c.in-Some.first.now c.in-Some.others.now c.in-Some.ensures.cases.0 c.new-out.ensures.items

pub loop-w-preserved : goal.loop-w-preserved
loop-w-preserved g c =
    let rows = c.args.rows.now in
    let out = c.loop-w.out.items in
    let item = c.w-item.result in
    let i = c.loop-w.w-index in
    let more = drop (i + 1) c.in-Some.others.now in
    let e : drop i c.in-Some.others.now ≡ item ∷ more = drop_more c.in-Some.others.now i item c.loop-w-test.true ∙ ap (λ (v : WeightValue). v ∷ more) (sym c.w-item.is) in
    let h : IsJoined rows out c.loop-w.last (item ∷ more) = subst (λ (vs : List WeightValue). IsJoined rows out c.loop-w.last vs) e c.loop-w.invariant in
    elim c.if-same_charge.branch [
      | then-same_charge w ↦ subst (λ (vs : List WeightValue). IsJoined rows vs c.if-same_charge.last more) (sym (ap (λ v. v.items) w.out-is)) (join_same rows out c.loop-w.last item c.if-same_charge.last more (c.same_charge.ensures.0 w.if-same_charge.true) (w.last-is ∙ w.plus-last.ensures) h)
      | else-same_charge+in_ok-push w ↦ subst (λ (v : WeightValue). IsJoined rows c.if-same_charge.out.items v more) (sym w.last-is) (join_other rows out c.if-same_charge.out.items c.loop-w.last item more (ap (λ v. v.items) w.out-is ∙ w.in_ok-push.ensures.items) h)
    ]

pub returns-clause-weights : goal.returns-clause-weights
returns-clause-weights g c =
    (joined_all c.args.rows.now c.loop-w.out.items c.push-2.new.self.items c.loop-w.last (drop c.loop-w.w-index c.in-Some.others.now) (drop_all c.loop-w.w-index c.in-Some.others.now (omega arith)) c.in_ok-push-2.ensures.items c.loop-w.invariant).0

pub returns-clause-rows : goal.returns-clause-rows
returns-clause-rows g c =
    (joined_all c.args.rows.now c.loop-w.out.items c.push-2.new.self.items c.loop-w.last (drop c.loop-w.w-index c.in-Some.others.now) (drop_all c.loop-w.w-index c.in-Some.others.now (omega arith)) c.in_ok-push-2.ensures.items c.loop-w.invariant).1
