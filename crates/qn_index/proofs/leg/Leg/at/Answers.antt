use Rattle.std.proofs.Common.{arith, ap, sym, ◌∙◌}
use Rattle.qn_index.specs.Legs.{SectorValue, sector_of, offset_in}
use Rattle.qn_index.proofs.Sectors.{read_via, sector_from_place}
use Rattle.qn_index.proofs.leg.Leg.at.Goals as goal

pub loop-i-preserved : goal.loop-i-preserved
loop-i-preserved g c =
    let r = read_via c.sectors-items.result.now c.args.self.now.sectors c.loop-i.i c.index-items-i.result c.s.inside.dim c.sectors-items.ensures (omega arith) c.index-items-i.is (ap (λ (p : SectorValue). p.dim) c.s.view_is) in
    omega (arith, r.next)

pub returns-then-rest-s : goal.returns-then-rest-s
returns-then-rest-s g c =
    let r = read_via c.sectors-items.result.now c.args.self.now.sectors c.loop-i.i c.index-items-i.result c.s.inside.dim c.sectors-items.ensures (omega arith) c.index-items-i.is (ap (λ (p : SectorValue). p.dim) c.s.view_is) in
    let back = sector_from_place c.args.self.now.sectors c.loop-i.i c.loop-i.rest r.within (omega (arith, r.dim)) in
    record {
      in_range = r.within;
      within = omega (arith, r.dim);
      place = c.loop-i.invariant;
      sector = sym (ap (sector_of c.args.self.now.sectors) (sym c.loop-i.invariant) ∙ back.0);
      offset = sym (ap (offset_in c.args.self.now.sectors) (sym c.loop-i.invariant) ∙ back.1);
    }
