use Rattle.std.proofs.Common.{rules, arith, lit<, subst, sym, ◌≡◌, [], ◌∷◌, ◌++◌}
use Rattle.qn_auto.specs.Terms.{IsStageOf}
use Rattle.qn_auto.specs.SumAutomaton.{sites_in, terms_in}
use Rattle.qn_mpo.specs.Rows.{left_stages, steps_from}
use Rattle.qn_mpo.proofs.LeftStates.{left_known, left_stage, passes_here, rows_done, rows_first, rows_more, steps_all, steps_here, steps_next}
use Rattle.qn_mpo.proofs.Products.{stop_as}
use Rattle.qn_mpo.proofs.tensor.rows_from.Goals as goal

pub returns-in_err-rows-clause-ticks : goal.returns-in_err-rows-clause-ticks
returns-in_err-rows-clause-ticks g c = omega arith

pub loop-left-init : goal.loop-left-init
loop-left-init g c = let e : c.in_ok-rows.rows.items ≡ [] = search rules in record { rows = rows_first c.args.scene.now.sum c.args.scene.now.site c.in_ok-rows.rows.items e; ticks = omega arith }

pub row_from-requires : goal.row_from-requires
row_from-requires g c =
    let v = c.args.scene.now.sum in
    let p = left_stage v c.args.scene.now.site c.loop-left.left-index c.args.lefts.now c.left-item.result c.requires.lefts (omega arith) c.left-item.is in
    (lit< tt, (lit< tt, subst (IsStageOf v) (sym p.1) (left_known v c.known.ensures.sum c.args.scene.now.site c.loop-left.left-index p.0)))

pub returns-in-Err-clause-err : goal.returns-in-Err-clause-err
returns-in-Err-clause-err g c =
    let v = c.args.scene.now.sum in
    let p = left_stage v c.args.scene.now.site c.loop-left.left-index c.args.lefts.now c.left-item.result c.requires.lefts (omega arith) c.left-item.is in
    stop_as (passes_here v c.args.scene.now.site c.loop-left.left-index c.left-item.result.stage p.0 p.1) c.in-Err.stop c.in-Err.ensures.err

pub returns-in-Err-clause-ticks : goal.returns-in-Err-clause-ticks
returns-in-Err-clause-ticks g c =
    let v = c.args.scene.now.sum in
    let p = left_stage v c.args.scene.now.site c.loop-left.left-index c.args.lefts.now c.left-item.result c.requires.lefts (omega arith) c.left-item.is in
    steps_here v c.args.scene.now.site c.loop-left.left-index c.left-item.result.stage c.args.steps.now c.loop-left.steps c.row_from.new.steps p.0 p.1 c.loop-left.invariant.ticks c.row_from.ensures.ticks

pub returns-in_err-push-in-Ok-clause-ticks : goal.returns-in_err-push-in-Ok-clause-ticks
returns-in_err-push-in-Ok-clause-ticks g c =
    let v = c.args.scene.now.sum in
    let p = left_stage v c.args.scene.now.site c.loop-left.left-index c.args.lefts.now c.left-item.result c.requires.lefts (omega arith) c.left-item.is in
    steps_here v c.args.scene.now.site c.loop-left.left-index c.left-item.result.stage c.args.steps.now c.loop-left.steps c.row_from.new.steps p.0 p.1 c.loop-left.invariant.ticks c.row_from.ensures.ticks

pub loop-left-preserved : goal.loop-left-preserved
loop-left-preserved g c =
    let v = c.args.scene.now.sum in
    let j = c.args.scene.now.site in
    let p = left_stage v j c.loop-left.left-index c.args.lefts.now c.left-item.result c.requires.lefts (omega arith) c.left-item.is in
    let pushed : c.push.new.self.items ≡ c.loop-left.rows.items ++ (c.in-Ok.row ∷ []) = search rules in
    record {
      rows = rows_more v j c.loop-left.left-index c.left-item.result.stage c.loop-left.rows.items c.push.new.self.items c.in-Ok.row p.1 c.loop-left.invariant.rows pushed c.in-Ok.ensures.ok c.in-Ok.ensures.none;
      ticks = steps_next (left_stages v j) (steps_from (sites_in v) (terms_in v) j) c.loop-left.left-index c.left-item.result.stage c.args.steps.now c.loop-left.steps c.row_from.new.steps p.0 p.1 c.loop-left.invariant.ticks c.row_from.ensures.ticks;
    }

pub returns-clause-ok : goal.returns-clause-ok
returns-clause-ok g c = (rows_done c.args.scene.now.sum c.args.scene.now.site c.loop-left.left-index c.args.lefts.now c.loop-left.rows.items c.requires.lefts (omega arith) c.loop-left.invariant.rows).0

pub returns-clause-none : goal.returns-clause-none
returns-clause-none g c = (rows_done c.args.scene.now.sum c.args.scene.now.site c.loop-left.left-index c.args.lefts.now c.loop-left.rows.items c.requires.lefts (omega arith) c.loop-left.invariant.rows).1

pub returns-clause-ticks : goal.returns-clause-ticks
returns-clause-ticks g c = steps_all c.args.scene.now.sum c.args.scene.now.site c.loop-left.left-index c.args.steps.now c.loop-left.steps c.loop-left.invariant.ticks
