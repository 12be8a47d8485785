use Rattle.std.proofs.Common.{arith, ◌∙◌, sym, length, lit<}
use Rattle.qn_block.proofs.Lookup.{values_length, value_at, sectors_length, offsets_length, sector_is, offset_is, filled_more, filled_all}
use Rattle.qn_index.specs.Places.{sectors_at}
use Rattle.qn_block.specs.Blocked.{offsets_at}
use Rattle.qn_block.proofs.entry.placed.Goals as goal

pub bounds-values-i : goal.bounds-values-i
bounds-values-i g c = omega (arith, values_length c.args.legs.now c.args.values.now c.requires.values)

pub at-sector-requires : goal.at-sector-requires
at-sector-requires g c = (lit< tt, value_at c.args.legs.now c.args.values.now c.loop-i.i c.index-legs-i.result c.requires.values (omega arith) c.index-legs-i.is)

pub loop-i-preserved : goal.loop-i-preserved
loop-i-preserved g c =
    let ls = c.args.legs.now in
    let xs = c.args.values.now in
    let v = c.requires.values in (
      filled_more c.loop-i.i c.at-sector.result.0 c.loop-i.sectors (sectors_at ls xs) (omega (arith, c.requires.few)) (omega (arith, sectors_length ls xs v)) (sector_is ls xs c.loop-i.i c.index-legs-i.result v (omega arith) c.index-legs-i.is ∙ sym c.at-sector.ensures.sector) c.loop-i.invariant.0,
      filled_more c.loop-i.i c.at-sector.result.1 c.loop-i.offsets (offsets_at ls xs) (omega (arith, c.requires.few)) (omega (arith, offsets_length ls xs v)) (offset_is ls xs c.loop-i.i c.index-legs-i.result v (omega arith) c.index-legs-i.is ∙ sym c.at-sector.ensures.offset) c.loop-i.invariant.1,
    )

pub returns-clause-sectors : goal.returns-clause-sectors
returns-clause-sectors g c = filled_all (length c.args.legs.now) c.loop-i.i c.loop-i.sectors (sectors_at c.args.legs.now c.args.values.now) (omega arith) (sectors_length c.args.legs.now c.args.values.now c.requires.values) c.loop-i.invariant.0

pub returns-clause-offsets : goal.returns-clause-offsets
returns-clause-offsets g c = filled_all (length c.args.legs.now) c.loop-i.i c.loop-i.offsets (offsets_at c.args.legs.now c.args.values.now) (omega arith) (offsets_length c.args.legs.now c.args.values.now c.requires.values) c.loop-i.invariant.1
