use Rattle.std.proofs.Common.{arith}
use Rattle.qn_mpo.proofs.Sums.{table_to_done, table_to_first, table_to_more, table_to_stops}
use Rattle.qn_mpo.proofs.row.add_table.Goals as goal

pub loop-place-init : goal.loop-place-init
loop-place-init g c = record { sums = table_to_first c.args.amount c.args.table.now c.args.start c.args.sums.now; ticks = omega arith }

pub bounds-sums-start : goal.bounds-sums-start
bounds-sums-start g c = let count = c.loop-place.invariant.sums.count in omega (arith, count, c.requires)

pub bounds-sums-start-in-Some : goal.bounds-sums-start-in-Some
bounds-sums-start-in-Some g c = let count = c.loop-place.invariant.sums.count in omega (arith, count, c.requires)

pub returns-in-None-clause-length : goal.returns-in-None-clause-length
returns-in-None-clause-length g c = c.loop-place.invariant.sums.count

pub returns-in-None-clause-err : goal.returns-in-None-clause-err
returns-in-None-clause-err g c =
    table_to_stops c.args.amount c.args.table.now c.args.start c.loop-place.place c.args.sums.now c.loop-place.sums c.index-sums-start.result c.index-table-place.result c.requires (omega arith) c.index-sums-start.is c.index-table-place.is
    c.loop-place.invariant.sums c.in-None.ensures.value

pub loop-place-preserved : goal.loop-place-preserved
loop-place-preserved g c = record {
  sums = table_to_more c.args.amount c.args.table.now c.args.start c.loop-place.place c.args.sums.now c.loop-place.sums c.index-sums-start.result c.index-table-place.result c.requires (omega arith) c.index-sums-start.is
      c.index-table-place.is c.loop-place.invariant.sums c.in-Some.more c.in-Some.ensures.value;
  ticks = omega (arith, c.loop-place.invariant.ticks, c.in-Some.ensures.ticks);
}

pub returns-clause-ok : goal.returns-clause-ok
returns-clause-ok g c = table_to_done c.args.amount c.args.table.now c.args.start c.loop-place.place c.args.sums.now c.loop-place.sums (omega arith) c.loop-place.invariant.sums

pub returns-clause-length : goal.returns-clause-length
returns-clause-length g c = c.loop-place.invariant.sums.count
