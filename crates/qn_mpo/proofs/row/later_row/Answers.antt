use Rattle.std.proofs.Common.{rules, subst, sym, ap, ◌∙◌, ◌≡◌, ◌*◌, List, []}
use Rattle.qn_gauss.specs.Gaussian.{Gaussian}
use Rattle.qn_auto.specs.Automaton.{next, to_come}
use Rattle.qn_auto.specs.Flux.{ops_at}
use Rattle.qn_auto.specs.Terms.{IsStageOf}
use Rattle.qn_auto.proofs.Terms.{next_known}
use Rattle.qn_mpo.specs.Rows.{IsRowFrom}
use Rattle.qn_mpo.proofs.Products.{more_steps, stop_as}
use Rattle.qn_mpo.proofs.Rows.{later_clear, later_stops, ops_known, row_found, row_none}
use Rattle.qn_mpo.proofs.row.later_row.Goals as goal

pub product-requires : goal.product-requires
product-requires g c =
    let h = ops_known c.args.scene.now c.known.ensures c.args.rest.now c.requires c.deref.result.now (c.deref.ensures.value ∙ (c.in_ok-ops.ensures ∙ ap (λ j. ops_at j c.args.rest.now) c.site.ensures)) in
    search rules

pub number_of-requires : goal.number_of-requires
number_of-requires g c = let h = subst (IsStageOf c.args.scene.now.sum) (sym c.in_ok-target.ensures) (next_known c.args.scene.now.sum c.site-2.result c.args.rest.now c.requires) in search rules

pub returns-in-Err-clause-err : goal.returns-in-Err-clause-err
returns-in-Err-clause-err g c = stop_as (later_stops c.args.scene.now.sum c.args.scene.now.site c.args.rest.now c.deref.result.now (c.deref.ensures.value ∙ (c.in_ok-ops.ensures ∙ ap (λ j. ops_at j c.args.rest.now) c.site.ensures))) c.in-Err.stop c.in-Err.ensures.err

pub returns-in-Err-clause-ticks : goal.returns-in-Err-clause-ticks
returns-in-Err-clause-ticks g c = let d = c.args.scene.now.dim in more_steps c.args.steps.now c.product.new.steps (d * d * d) c.deref.result.now (ops_at c.args.scene.now.site c.args.rest.now) (c.deref.ensures.value ∙ (c.in_ok-ops.ensures ∙ ap (λ j. ops_at j c.args.rest.now) c.site.ensures)) c.product.ensures.ticks

pub returns-in_err-target-clause-ticks : goal.returns-in_err-target-clause-ticks
returns-in_err-target-clause-ticks g c = let d = c.args.scene.now.dim in more_steps c.args.steps.now c.product.new.steps (d * d * d) c.deref.result.now (ops_at c.args.scene.now.site c.args.rest.now) (c.deref.ensures.value ∙ (c.in_ok-ops.ensures ∙ ap (λ j. ops_at j c.args.rest.now) c.site.ensures)) c.product.ensures.ticks

pub returns-in-Some-clause-ok : goal.returns-in-Some-clause-ok
returns-in-Some-clause-ok g c =
    let v = c.args.scene.now.sum in
    let j = c.args.scene.now.site in
    let row = row_found v j c.args.rest.now c.deref.result.now c.args.scene.now.dim c.in-Ok.table c.in-Some.first c.in_ok-target.target (c.deref.ensures.value ∙ (c.in_ok-ops.ensures ∙ ap (λ j. ops_at j c.args.rest.now) c.site.ensures)) c.known.ensures.dim c.in-Ok.ensures.ok (c.in_ok-target.ensures ∙ ap (λ j. next j c.args.rest.now) c.site-2.ensures) c.in-Some.ensures in
    subst (λ (es : List Gaussian). IsRowFrom v j (to_come c.args.rest.now) (record { first = c.in-Some.first; entries = es })) (sym c.into_entries.ensures) row

pub returns-in-Some-clause-none : goal.returns-in-Some-clause-none
returns-in-Some-clause-none g c = later_clear c.args.scene.now.sum c.args.scene.now.site c.args.rest.now c.deref.result.now c.args.scene.now.dim c.in-Ok.table (c.deref.ensures.value ∙ (c.in_ok-ops.ensures ∙ ap (λ j. ops_at j c.args.rest.now) c.site.ensures)) c.known.ensures.dim c.in-Ok.ensures.ok c.known-2.ensures c.in-Ok.ensures.none

pub returns-in-Some-clause-ticks : goal.returns-in-Some-clause-ticks
returns-in-Some-clause-ticks g c = let d = c.args.scene.now.dim in more_steps c.args.steps.now c.product.new.steps (d * d * d) c.deref.result.now (ops_at c.args.scene.now.site c.args.rest.now) (c.deref.ensures.value ∙ (c.in_ok-ops.ensures ∙ ap (λ j. ops_at j c.args.rest.now) c.site.ensures)) c.product.ensures.ticks

pub returns-clause-ok : goal.returns-clause-ok
returns-clause-ok g c =
    let row = row_none c.args.scene.now.sum c.args.scene.now.site c.args.rest.now c.in_ok-target.target (c.in_ok-target.ensures ∙ ap (λ j. next j c.args.rest.now) c.site-2.ensures) c.in-None.ensures in
    let none : c.new.result.items ≡ [] = search rules in
    subst (λ (es : List Gaussian). IsRowFrom c.args.scene.now.sum c.args.scene.now.site (to_come c.args.rest.now) (record { first = 0; entries = es })) (sym none) row

pub returns-clause-none : goal.returns-clause-none
returns-clause-none g c = later_clear c.args.scene.now.sum c.args.scene.now.site c.args.rest.now c.deref.result.now c.args.scene.now.dim c.in-Ok.table (c.deref.ensures.value ∙ (c.in_ok-ops.ensures ∙ ap (λ j. ops_at j c.args.rest.now) c.site.ensures)) c.known.ensures.dim c.in-Ok.ensures.ok c.known-2.ensures c.in-Ok.ensures.none

pub returns-clause-ticks : goal.returns-clause-ticks
returns-clause-ticks g c = let d = c.args.scene.now.dim in more_steps c.args.steps.now c.product.new.steps (d * d * d) c.deref.result.now (ops_at c.args.scene.now.site c.args.rest.now) (c.deref.ensures.value ∙ (c.in_ok-ops.ensures ∙ ap (λ j. ops_at j c.args.rest.now) c.site.ensures)) c.product.ensures.ticks
