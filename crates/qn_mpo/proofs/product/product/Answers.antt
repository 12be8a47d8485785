use Rattle.std.proofs.Common.{rules, lit<, subst, sym, ◌<◌, ◌*◌, List, ℕ, length}
use Rattle.std.specs.Prelude.{IfErr, IfOk, OnOk}
use Rattle.std.specs.List.{All}
use Rattle.qn_opsum.specs.Strings.{matrix}
use Rattle.qn_auto.specs.Building.{ProductPasses}
use Rattle.qn_auto.specs.Flux.{on_site}
use Rattle.qn_auto.specs.SumAutomaton.{sites_in}
use Rattle.qn_mpo.specs.Tables.{IsStop, IsTableOf}
use Rattle.qn_mpo.proofs.Products.{all_parts, longer_steps, scene_small}
use Rattle.qn_mpo.proofs.product.product.Goals as goal

pub product_from-requires : goal.product_from-requires
product_from-requires g c =
    let parts = all_parts (λ o. o < length c.args.scene.now.tables) c.in-Some.first.now c.in-Some.later.now (subst (All (λ o. o < length c.args.scene.now.tables)) c.in-Some.ensures.cases.0 c.requires) in
    (lit< tt, (parts.0, parts.1))

pub identity-requires : goal.identity-requires
identity-requires g c = let small = scene_small c.args.scene.now c.known.ensures in search rules

pub returns-in-Some-clause-ok : goal.returns-in-Some-clause-ok
returns-in-Some-clause-ok g c =
    subst (λ (os : List ℕ). IfOk c.product_from.result (IsTableOf c.args.scene.now.dim (matrix (sites_in c.args.scene.now.sum) (on_site c.args.scene.now.site os) c.args.scene.now.site))) (sym c.in-Some.ensures.cases.0) c.product_from.ensures.ok

pub returns-in-Some-clause-none : goal.returns-in-Some-clause-none
returns-in-Some-clause-none g c =
    subst (λ (os : List ℕ). OnOk c.product_from.result (ProductPasses (sites_in c.args.scene.now.sum) c.args.scene.now.site os → ⊥)) (sym c.in-Some.ensures.cases.0) c.product_from.ensures.none

pub returns-in-Some-clause-err : goal.returns-in-Some-clause-err
returns-in-Some-clause-err g c =
    subst (λ (os : List ℕ). IfErr c.product_from.result (IsStop (ProductPasses (sites_in c.args.scene.now.sum) c.args.scene.now.site os))) (sym c.in-Some.ensures.cases.0) c.product_from.ensures.err

pub returns-in-Some-clause-ticks : goal.returns-in-Some-clause-ticks
returns-in-Some-clause-ticks g c = let d = c.args.scene.now.dim in longer_steps c.args.steps.now c.product_from.new.steps (d * d * d) c.in-Some.first.now c.in-Some.later.now c.args.ops.now c.in-Some.ensures.cases.0 c.product_from.ensures.ticks
