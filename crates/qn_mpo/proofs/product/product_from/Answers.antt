use Rattle.std.proofs.Common.{rules, arith, subst, sym, refl, ◌<◌, ◌≤◌, ◌+◌, ◌*◌, length, get_or}
use Rattle.std.proofs.lemmas.List.{get_or_default}
use Rattle.qn_auto.specs.SumAutomaton.{sites_in}
use Rattle.qn_mpo.specs.Tables.{IsTableOf}
use Rattle.qn_mpo.proofs.Products.{product_done, product_first, product_more, product_stops, scene_small, scene_table, stop_as, times_made, times_stop, within_steps}
use Rattle.qn_mpo.proofs.product.product_from.Goals as goal
use Rattle.qn_facts.proofs.Numbers.{next_steps}

pub bounds-tables-first : goal.bounds-tables-first
bounds-tables-first g c = let small : c.args.first < length c.tables-tables.result.now = subst (λ ts. c.args.first < length ts) (sym c.tables-tables.ensures) c.requires.first in search rules

pub loop-i-init : goal.loop-i-init
loop-i-init g c = record {
  made = product_first (sites_in c.args.scene.now.sum) c.args.scene.now.site c.args.scene.now.dim c.args.first c.args.later.now c.in_ok-made.made
      (subst (IsTableOf c.args.scene.now.dim ((sites_in c.args.scene.now.sum).table c.args.scene.now.site c.args.first)) (sym c.in_ok-made.ensures)
      (scene_table c.args.scene.now c.known.ensures c.args.scene.now.dim c.args.first c.tables-tables.result.now c.index-tables-first.result refl c.tables-tables.ensures c.requires.first c.index-tables-first.is));
  ticks = omega arith;
}

pub bounds-tables-later : goal.bounds-tables-later
bounds-tables-later g c = subst (λ ts. get_or c.args.later.now c.loop-i.i 0 < length ts) (sym c.tables-tables.ensures) (c.requires.later c.loop-i.i 0 (omega arith))

pub times-requires : goal.times-requires
times-requires g c = let small = scene_small c.args.scene.now c.known.ensures in search rules

pub returns-in-Err-clause-err : goal.returns-in-Err-clause-err
returns-in-Err-clause-err g c =
    let s = c.args.scene.now in
    let o = get_or c.args.later.now c.loop-i.i 0 in
    let op = scene_table s c.known.ensures s.dim o c.tables-tables.result.now c.index-tables-later.result refl c.tables-tables.ensures (c.requires.later c.loop-i.i 0 (omega arith)) c.index-tables-later.is in
    stop_as (λ l. product_stops (sites_in s.sum) s.site s.dim c.args.first c.args.later.now c.loop-i.i o c.loop-i.made c.index-tables-later.result c.known.ensures.dim (omega arith) (get_or_default c.args.later.now c.loop-i.i 0 o (omega arith))
    c.loop-i.invariant.made op l) c.in-Err.stop (times_stop s.dim c.dim-dim.result c.loop-i.made c.entries.result.now c.index-tables-later.result c.entries-in-loop-i.result.now c.in-Err.stop c.dim-dim.ensures c.entries.ensures c.entries-in-loop-i.ensures c.in-Err.ensures.err)

pub returns-in-Err-clause-ticks : goal.returns-in-Err-clause-ticks
returns-in-Err-clause-ticks g c =
    let k = c.args.scene.now.dim in
    within_steps c.args.steps.now c.times.new.steps (c.loop-i.i + 1) (length c.args.later.now) (k * k * k)
    (next_steps c.args.steps.now c.loop-i.steps c.times.new.steps c.loop-i.i (k * k * k) c.loop-i.invariant.ticks (subst (λ d. c.times.new.steps ≤ c.loop-i.steps + d * d * d) c.dim-dim.ensures c.times.ensures.ticks)) (omega arith)

pub loop-i-preserved : goal.loop-i-preserved
loop-i-preserved g c =
    let s = c.args.scene.now in
    let k = s.dim in
    let o = get_or c.args.later.now c.loop-i.i 0 in
    let op = scene_table s c.known.ensures s.dim o c.tables-tables.result.now c.index-tables-later.result refl c.tables-tables.ensures (c.requires.later c.loop-i.i 0 (omega arith)) c.index-tables-later.is in
    let made = times_made s.dim c.dim-dim.result c.loop-i.made c.entries.result.now c.index-tables-later.result c.entries-in-loop-i.result.now c.in-Ok.more c.dim-dim.ensures c.entries.ensures c.entries-in-loop-i.ensures c.in-Ok.ensures.ok c.in-Ok.ensures.fits in
    record {
      made = product_more (sites_in s.sum) s.site s.dim c.args.first c.args.later.now c.loop-i.i o c.loop-i.made c.index-tables-later.result c.in-Ok.more c.known.ensures.dim (omega arith)
          (get_or_default c.args.later.now c.loop-i.i 0 o (omega arith)) c.loop-i.invariant.made op made.0 made.1;
      ticks = next_steps c.args.steps.now c.loop-i.steps c.times.new.steps c.loop-i.i (k * k * k) c.loop-i.invariant.ticks (subst (λ d. c.times.new.steps ≤ c.loop-i.steps + d * d * d) c.dim-dim.ensures c.times.ensures.ticks);
    }

pub returns-clause-ok : goal.returns-clause-ok
returns-clause-ok g c = (product_done (sites_in c.args.scene.now.sum) c.args.scene.now.site c.args.scene.now.dim c.args.first c.args.later.now c.loop-i.i c.loop-i.made c.known.ensures.dim (omega arith) c.loop-i.invariant.made).0

pub returns-clause-none : goal.returns-clause-none
returns-clause-none g c = (product_done (sites_in c.args.scene.now.sum) c.args.scene.now.site c.args.scene.now.dim c.args.first c.args.later.now c.loop-i.i c.loop-i.made c.known.ensures.dim (omega arith) c.loop-i.invariant.made).1

pub returns-clause-ticks : goal.returns-clause-ticks
returns-clause-ticks g c = let k = c.args.scene.now.dim in within_steps c.args.steps.now c.loop-i.steps c.loop-i.i (length c.args.later.now) (k * k * k) c.loop-i.invariant.ticks (omega arith)
