use Rattle.std.proofs.Common.{rules, arith, lit<, subst, sym, ap, ◌∙◌, ◌≡◌, ◌≤◌, ◌+◌, ◌*◌, drop, length, map, List}
use Rattle.std.specs.List.{All}
use Rattle.qn_gauss.specs.Gaussian.{limit}
use Rattle.qn_auto.specs.SumAutomaton.{sites_in, states, terms_in}
use Rattle.qn_mpo.specs.Rows.{dim_at}
use Rattle.qn_mpo.specs.Sizes.{SumValue}
use Rattle.qn_mpo.proofs.Products.{stop_as}
use Rattle.qn_mpo.proofs.Rows.{term_known}
use Rattle.qn_mpo.proofs.Sums.{AreSums, steps_end, steps_mid, steps_step, sums_clear, sums_done, sums_first, sums_step, sums_stop, written}
use Rattle.qn_mpo.proofs.row.first_row.Goals as goal

pub returns-in_err-sums-clause-ticks : goal.returns-in_err-sums-clause-ticks
returns-in_err-sums-clause-ticks g c = omega arith

pub loop-term-init : goal.loop-term-init
loop-term-init g c = record { sums = sums_first c.args.scene.now.sum c.args.scene.now.site c.in_ok-sums.sums.items c.in_ok-sums.ensures; ticks = omega arith }

pub add_term-requires : goal.add_term-requires
add_term-requires g c =
    let v = c.args.scene.now.sum in
    let j = c.args.scene.now.site in (
      lit< tt,
      (
        term_known c.args.scene.now c.known.ensures c.loop-term.term-index c.term-item.result c.terms-term-items.result.now c.terms-term-items.ensures (omega arith) c.term-item.is,
        subst (λ (ss : List SumValue). length ss ≡ length (states v j) * (dim_at v j * dim_at v j)) (sym c.deref_mut.ensures.value) c.loop-term.invariant.sums.count,
      ),
    )

pub returns-in-Err-clause-err : goal.returns-in-Err-clause-err
returns-in-Err-clause-err g c =
    let v = c.args.scene.now.sum in
    let j = c.args.scene.now.site in
    stop_as (sums_stop v j c.loop-term.term-index c.term-item.result c.terms-term-items.result.now c.deref_mut.result.now (c.terms-term-items.ensures ∙ c.known.ensures.terms) (omega arith) c.term-item.is
    (subst (AreSums v j (drop c.loop-term.term-index (terms_in v))) (sym c.deref_mut.ensures.value) c.loop-term.invariant.sums)) c.in-Err.stop c.in-Err.ensures.err

pub returns-in-Err-clause-ticks : goal.returns-in-Err-clause-ticks
returns-in-Err-clause-ticks g c =
    let v = c.args.scene.now.sum in
    let j = c.args.scene.now.site in
    steps_mid (sites_in v) j c.loop-term.term-index c.term-item.result c.terms-term-items.result.now (terms_in v) c.args.steps.now c.loop-term.steps c.add_term.new.steps (c.terms-term-items.ensures ∙ c.known.ensures.terms) (omega arith) c.term-item.is
    c.loop-term.invariant.ticks c.add_term.ensures.ticks

pub loop-term-preserved : goal.loop-term-preserved
loop-term-preserved g c =
    let v = c.args.scene.now.sum in
    let j = c.args.scene.now.site in
    let i = c.loop-term.term-index in
    let ws = c.terms-term-items.result.now in
    let e = c.terms-term-items.ensures ∙ c.known.ensures.terms in
    let whole = ap length c.deref_mut.ensures.value in
    let len : c.loop-term.sums.len ≡ length c.loop-term.sums.items = search rules in
    record {
      sums = subst (AreSums v j (drop (i + 1) (terms_in v))) (sym (written c.loop-term.sums.len c.add_term.new.sums c.loop-term.sums.items (c.add_term.ensures.length ∙ whole) len))
          (sums_step v j i c.term-item.result ws c.deref_mut.result.now c.add_term.new.sums e (omega arith) c.term-item.is
          (subst (AreSums v j (drop i (terms_in v))) (sym c.deref_mut.ensures.value) c.loop-term.invariant.sums) c.in-Ok.ensures.ok c.in-Ok.ensures.none);
      ticks = steps_step (sites_in v) j i c.term-item.result ws (terms_in v) c.args.steps.now c.loop-term.steps c.add_term.new.steps e (omega arith) c.term-item.is c.loop-term.invariant.ticks c.add_term.ensures.ticks;
    }

pub returns-in_err-values_of-clause-ticks : goal.returns-in_err-values_of-clause-ticks
returns-in_err-values_of-clause-ticks g c = steps_end (sites_in c.args.scene.now.sum) c.args.scene.now.site c.loop-term.term-index (terms_in c.args.scene.now.sum) c.args.steps.now c.loop-term.steps c.loop-term.invariant.ticks

pub returns-clause-ok : goal.returns-clause-ok
returns-clause-ok g c =
    sums_done c.args.scene.now.sum c.args.scene.now.site c.loop-term.term-index c.terms-term-items.result.now c.loop-term.sums.items c.in_ok-values_of.field-0.items (c.terms-term-items.ensures ∙ c.known.ensures.terms) (omega arith)
    c.loop-term.invariant.sums (c.in_ok-values_of.ensures.values ∙ ap (map (λ (s : SumValue). s.value)) c.deref.ensures.value)

pub returns-clause-none : goal.returns-clause-none
returns-clause-none g c =
    sums_clear c.args.scene.now.sum c.args.scene.now.site c.loop-term.term-index c.terms-term-items.result.now c.loop-term.sums.items (c.terms-term-items.ensures ∙ c.known.ensures.terms) (omega arith) c.loop-term.invariant.sums
    (subst (All (λ (s : SumValue). s.size ≤ limit)) c.deref.ensures.value c.in_ok-values_of.ensures.fit)

pub returns-clause-ticks : goal.returns-clause-ticks
returns-clause-ticks g c = steps_end (sites_in c.args.scene.now.sum) c.args.scene.now.site c.loop-term.term-index (terms_in c.args.scene.now.sum) c.args.steps.now c.loop-term.steps c.loop-term.invariant.ticks
