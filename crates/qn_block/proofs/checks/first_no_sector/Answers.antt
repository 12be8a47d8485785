use Rattle.std.proofs.Common.{arith, ap, length}
use Rattle.qn_block.specs.Refusals.{IsNoSector}
use Rattle.qn_block.proofs.Firsts.{none_more, none_at_all, no_sector_at, no_sector_below, sector_at_place, tuple_from}
use Rattle.qn_block.proofs.checks.first_no_sector.Goals as goal

pub returns-then-tuple-i : goal.returns-then-tuple-i
returns-then-tuple-i g c =
    let ls = c.args.legs.now in
    let long = ap length c.sectors.ensures in
    record {
      here = no_sector_at ls c.args.tuple.now c.loop-i.i c.index-legs-i.result c.requires (omega arith) c.index-legs-i.is (omega (arith, long));
      before = c.loop-i.invariant;
    }

pub loop-i-preserved : goal.loop-i-preserved
loop-i-preserved g c =
    let ls = c.args.legs.now in
    let long = ap length c.sectors.ensures in
    none_more (IsNoSector ls c.args.tuple.now) c.loop-i.i c.loop-i.invariant
    (sector_at_place ls c.args.tuple.now c.loop-i.i c.index-legs-i.result (omega arith) c.index-legs-i.is (omega (arith, long)))

pub returns : goal.returns
returns g c =
    let ls = c.args.legs.now in
    let t = c.args.tuple.now in
    tuple_from ls t c.requires (none_at_all (IsNoSector ls t) (length ls) c.loop-i.i (omega arith) (no_sector_below ls t) c.loop-i.invariant)
