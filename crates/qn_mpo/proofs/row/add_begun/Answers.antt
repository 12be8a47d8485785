use Rattle.std.proofs.Common.{rules, arith, refl, lit<, subst, sym, ap, ap₂, ◌∙◌, ◌≡◌, ◌≤◌, ◌<◌, ◌*◌, ◌==◌, ℕ, length, inl, inr}
use Rattle.qn_opsum.specs.Strings.{matrix}
use Rattle.qn_auto.specs.Automaton.{Term, next, same_stage, stage_at}
use Rattle.qn_auto.specs.Building.{ProductPasses}
use Rattle.qn_auto.specs.Flux.{ops_at}
use Rattle.qn_auto.specs.Terms.{IsStageOf}
use Rattle.qn_auto.specs.SumAutomaton.{sites_in, states}
use Rattle.qn_auto.proofs.Terms.{next_known}
use Rattle.qn_mpo.specs.Tables.{IsTableOf}
use Rattle.qn_mpo.proofs.Links.{few_states}
use Rattle.qn_mpo.proofs.Numbers.{is_number}
use Rattle.qn_mpo.proofs.Products.{if_err, on_ok, on_ok_all, scene_small, stop_as}
use Rattle.qn_mpo.proofs.Rows.{begun_within, ops_known, term_table}
use Rattle.qn_mpo.proofs.Sums.{passes_same, table_same, term_added, term_nowhere, term_passes}
use Rattle.qn_mpo.proofs.Tables.{places_small, square_small, table_room}
use Rattle.qn_mpo.proofs.row.add_begun.Goals as goal

pub product-requires : goal.product-requires
product-requires g c = (lit< tt, ops_known c.args.scene.now c.known.ensures c.args.term.now.factors c.requires.known c.deref.result.now (c.deref.ensures.value ∙ (c.in_ok-ops.ensures ∙ ap₂ ops_at c.site.ensures c.factors.ensures)))

pub returns-in-Err-clause-err : goal.returns-in-Err-clause-err
returns-in-Err-clause-err g c = stop_as (λ p. inl (subst (ProductPasses (sites_in c.args.scene.now.sum) c.args.scene.now.site) (c.deref.ensures.value ∙ (c.in_ok-ops.ensures ∙ ap₂ ops_at c.site.ensures c.factors.ensures)) p)) c.in-Err.stop c.in-Err.ensures.err

pub returns-in-Err-clause-ticks : goal.returns-in-Err-clause-ticks
returns-in-Err-clause-ticks g c =
    let d = c.args.scene.now.dim in
    begun_within (sites_in c.args.scene.now.sum) c.args.scene.now.site c.args.term.now d c.deref.result.now c.args.steps.now c.product.new.steps c.product.new.steps 0 c.requires.begins c.known.ensures.dim (c.deref.ensures.value ∙ (c.in_ok-ops.ensures ∙ ap₂ ops_at c.site.ensures c.factors.ensures)) c.product.ensures.ticks (omega arith) (omega arith)

pub returns-in_err-target-clause-ticks : goal.returns-in_err-target-clause-ticks
returns-in_err-target-clause-ticks g c =
    let d = c.args.scene.now.dim in
    begun_within (sites_in c.args.scene.now.sum) c.args.scene.now.site c.args.term.now d c.deref.result.now c.args.steps.now c.product.new.steps c.product.new.steps 0 c.requires.begins c.known.ensures.dim (c.deref.ensures.value ∙ (c.in_ok-ops.ensures ∙ ap₂ ops_at c.site.ensures c.factors.ensures)) c.product.ensures.ticks (omega arith) (omega arith)

pub number_of-requires : goal.number_of-requires
number_of-requires g c = (lit< tt, subst (IsStageOf c.args.scene.now.sum) (sym (c.in_ok-target.ensures ∙ ap₂ next c.site-2.ensures c.factors-2.ensures)) (next_known c.args.scene.now.sum c.args.scene.now.site c.args.term.now.factors c.requires.known))

pub overflow_mul-dim : goal.overflow_mul-dim
overflow_mul-dim g c =
    let few : c.dim-dim.result ≤ 64 = subst (λ n. n ≤ 64) (sym c.dim-dim.ensures) (scene_small c.args.scene.now c.known.ensures) in
    let small = square_small c.dim-dim.result few in
    search rules

pub overflow_mul-number : goal.overflow_mul-number
overflow_mul-number g c =
    let few : c.dim-dim.result ≤ 64 = subst (λ n. n ≤ 64) (sym c.dim-dim.ensures) (scene_small c.args.scene.now c.known.ensures) in
    let count = few_states c.args.scene.now.sum c.known.ensures.sum c.args.scene.now.site in
    let at = c.in-Some.ensures.0 in
    let small = places_small c.in-Some.number (length (states c.args.scene.now.sum c.args.scene.now.site)) (c.dim-dim.result * c.dim-dim.result) (omega (arith, at)) count (square_small c.dim-dim.result few) in
    search rules

pub add_table-requires : goal.add_table-requires
add_table-requires g c =
    let v = c.args.scene.now.sum in
    let j = c.args.scene.now.site in
    let S = sites_in v in
    let made = term_table S c.args.term.now.factors j c.args.scene.now.dim c.deref.result.now c.in-Ok.table (c.deref.ensures.value ∙ (c.in_ok-ops.ensures ∙ ap₂ ops_at c.site.ensures c.factors.ensures)) c.in-Ok.ensures.ok in
    let whole = subst (λ k. IsTableOf k (matrix S c.args.term.now.factors j) c.in-Ok.table) c.known.ensures.dim made in
    let amount = ap (λ (w : Term). w.amount) c.term.view_is in
    let number : (m : ℕ) → m < length (states v j) → same_stage (next j c.args.term.now.factors) (stage_at (states v j) m) ≡ (m == c.in-Some.number) = λ m lt. is_number v j c.in-Some.number m (next j c.args.term.now.factors) c.in-Some.ensures.0 lt (c.in-Some.ensures.1 ∙ (c.in_ok-target.ensures ∙ ap₂ next c.site-2.ensures c.factors-2.ensures)) in
    table_room c.in-Some.number (length (states v j)) c.dim-dim.result (S.dim j) (length c.entries.result.now) (length c.args.sums.now) c.in-Some.ensures.0 (ap length c.entries.ensures ∙ whole.full) (c.dim-dim.ensures ∙ c.known.ensures.dim) c.requires.count

pub returns-in-Some-clause-ok : goal.returns-in-Some-clause-ok
returns-in-Some-clause-ok g c =
    let v = c.args.scene.now.sum in
    let j = c.args.scene.now.site in
    let S = sites_in v in
    let made = term_table S c.args.term.now.factors j c.args.scene.now.dim c.deref.result.now c.in-Ok.table (c.deref.ensures.value ∙ (c.in_ok-ops.ensures ∙ ap₂ ops_at c.site.ensures c.factors.ensures)) c.in-Ok.ensures.ok in
    let whole = subst (λ k. IsTableOf k (matrix S c.args.term.now.factors j) c.in-Ok.table) c.known.ensures.dim made in
    let amount = ap (λ (w : Term). w.amount) c.term.view_is in
    let number : (m : ℕ) → m < length (states v j) → same_stage (next j c.args.term.now.factors) (stage_at (states v j) m) ≡ (m == c.in-Some.number) = λ m lt. is_number v j c.in-Some.number m (next j c.args.term.now.factors) c.in-Some.ensures.0 lt (c.in-Some.ensures.1 ∙ (c.in_ok-target.ensures ∙ ap₂ next c.site-2.ensures c.factors-2.ensures)) in
    on_ok (λ h. term_added S j (states v j) c.args.term.now c.dim-dim.result c.in-Some.number c.in-Ok.table c.args.sums.now (c.dim-dim.ensures ∙ c.known.ensures.dim) c.requires.begins whole number c.add_table.new.sums
    (table_same c.term.inside.amount c.args.term.now.amount c.entries.result.now c.in-Ok.table (c.in-Some.number * (c.dim-dim.result * c.dim-dim.result)) c.args.sums.now c.add_table.new.sums amount c.entries.ensures h)) c.add_table.result c.add_table.ensures.ok

pub returns-in-Some-clause-length : goal.returns-in-Some-clause-length
returns-in-Some-clause-length g c = c.add_table.ensures.length

pub returns-in-Some-clause-none : goal.returns-in-Some-clause-none
returns-in-Some-clause-none g c = on_ok_all (λ p. c.in-Ok.ensures.none (subst (ProductPasses (sites_in c.args.scene.now.sum) c.args.scene.now.site) (sym (c.deref.ensures.value ∙ (c.in_ok-ops.ensures ∙ ap₂ ops_at c.site.ensures c.factors.ensures))) p)) c.add_table.result

pub returns-in-Some-clause-err : goal.returns-in-Some-clause-err
returns-in-Some-clause-err g c =
    let v = c.args.scene.now.sum in
    let j = c.args.scene.now.site in
    let S = sites_in v in
    let made = term_table S c.args.term.now.factors j c.args.scene.now.dim c.deref.result.now c.in-Ok.table (c.deref.ensures.value ∙ (c.in_ok-ops.ensures ∙ ap₂ ops_at c.site.ensures c.factors.ensures)) c.in-Ok.ensures.ok in
    let whole = subst (λ k. IsTableOf k (matrix S c.args.term.now.factors j) c.in-Ok.table) c.known.ensures.dim made in
    let amount = ap (λ (w : Term). w.amount) c.term.view_is in
    let number : (m : ℕ) → m < length (states v j) → same_stage (next j c.args.term.now.factors) (stage_at (states v j) m) ≡ (m == c.in-Some.number) = λ m lt. is_number v j c.in-Some.number m (next j c.args.term.now.factors) c.in-Some.ensures.0 lt (c.in-Some.ensures.1 ∙ (c.in_ok-target.ensures ∙ ap₂ next c.site-2.ensures c.factors-2.ensures)) in
    if_err (λ h. inr (term_passes S j (states v j) c.args.term.now c.dim-dim.result c.in-Some.number c.in-Ok.table c.args.sums.now (c.dim-dim.ensures ∙ c.known.ensures.dim) c.requires.begins whole number c.in-Some.ensures.0
    (passes_same c.term.inside.amount c.args.term.now.amount c.entries.result.now c.in-Ok.table (c.in-Some.number * (c.dim-dim.result * c.dim-dim.result)) c.args.sums.now amount c.entries.ensures h))) c.add_table.result c.add_table.ensures.err

pub returns-in-Some-clause-ticks : goal.returns-in-Some-clause-ticks
returns-in-Some-clause-ticks g c =
    let full : length c.entries.result.now ≤ c.args.scene.now.dim * c.args.scene.now.dim = let e = ap length c.entries.ensures ∙ c.in-Ok.ensures.ok.full in omega (arith, e) in
    let d = c.args.scene.now.dim in
    begun_within (sites_in c.args.scene.now.sum) c.args.scene.now.site c.args.term.now d c.deref.result.now c.args.steps.now c.product.new.steps c.add_table.new.steps (length c.entries.result.now) c.requires.begins c.known.ensures.dim (c.deref.ensures.value ∙ (c.in_ok-ops.ensures ∙ ap₂ ops_at c.site.ensures c.factors.ensures)) c.product.ensures.ticks c.add_table.ensures.ticks full

pub returns-clause-ok : goal.returns-clause-ok
returns-clause-ok g c = term_nowhere (sites_in c.args.scene.now.sum) c.args.scene.now.site (states c.args.scene.now.sum c.args.scene.now.site) c.args.term.now c.args.sums.now c.args.sums.now c.in_ok-target.target refl c.requires.begins (c.in_ok-target.ensures ∙ ap₂ next c.site-2.ensures c.factors-2.ensures) c.in-None.ensures

pub returns-clause-none : goal.returns-clause-none
returns-clause-none g c = λ p. c.in-Ok.ensures.none (subst (ProductPasses (sites_in c.args.scene.now.sum) c.args.scene.now.site) (sym (c.deref.ensures.value ∙ (c.in_ok-ops.ensures ∙ ap₂ ops_at c.site.ensures c.factors.ensures))) p)

pub returns-clause-ticks : goal.returns-clause-ticks
returns-clause-ticks g c =
    let d = c.args.scene.now.dim in
    begun_within (sites_in c.args.scene.now.sum) c.args.scene.now.site c.args.term.now d c.deref.result.now c.args.steps.now c.product.new.steps c.product.new.steps 0 c.requires.begins c.known.ensures.dim (c.deref.ensures.value ∙ (c.in_ok-ops.ensures ∙ ap₂ ops_at c.site.ensures c.factors.ensures)) c.product.ensures.ticks (omega arith) (omega arith)
