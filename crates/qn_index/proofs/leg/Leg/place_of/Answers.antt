use Rattle.std.proofs.Common.{arith, ap, ◌∙◌, ◌≤◌, ◌≡◌, ◌+◌, length}
use Rattle.std.proofs.lemmas.List.{length-take}
use Rattle.qn_index.specs.Legs.{SectorValue, before, sector_of, offset_in}
use Rattle.qn_index.proofs.Sectors.{read_in, place_bound, sector_from_place}
use Rattle.qn_index.proofs.leg.Leg.place_of.Goals as goal

pub overflow_add-sum : goal.overflow_add-sum
overflow_add-sum g c =
    let long = ap length c.sectors-items.ensures in
    let le : c.args.sector ≤ length c.sectors-items.result.now = omega arith in
    let r = read_in c.sectors-items.result.now c.args.self.now.sectors c.args.sector c.loop-s.s-index c.s-item.result c.s.inside.dim c.sectors-items.ensures le c.loop-s-test.true c.s-item.is (ap (λ (p : SectorValue). p.dim) c.s.view_is) in
    grind (arith, r.bound, c.known.ensures.bound)

pub loop-s-preserved : goal.loop-s-preserved
loop-s-preserved g c =
    let long = ap length c.sectors-items.ensures in
    let le : c.args.sector ≤ length c.sectors-items.result.now = omega arith in
    let r = read_in c.sectors-items.result.now c.args.self.now.sectors c.args.sector c.loop-s.s-index c.s-item.result c.s.inside.dim c.sectors-items.ensures le c.loop-s-test.true c.s-item.is (ap (λ (p : SectorValue). p.dim) c.s.view_is) in
    omega (arith, r.next)

pub overflow_add-result : goal.overflow_add-result
overflow_add-result g c =
    let long = ap length c.sectors-items.ensures in
    let all : c.loop-s.s-index ≡ c.args.sector = omega (arith, length-take c.args.sector c.sectors-items.result.now) in
    let sum = c.loop-s.invariant ∙ ap (before c.args.self.now.sectors) all in
    grind (arith, place_bound c.args.self.now.sectors c.args.sector c.args.offset c.requires.sector c.requires.offset, c.known.ensures.bound)

pub returns : goal.returns
returns g c =
    let long = ap length c.sectors-items.ensures in
    let all : c.loop-s.s-index ≡ c.args.sector = omega (arith, length-take c.args.sector c.sectors-items.result.now) in
    let sum : c.loop-s.sum + c.args.offset ≡ before c.args.self.now.sectors c.args.sector + c.args.offset = ap (λ k. k + c.args.offset) (c.loop-s.invariant ∙ ap (before c.args.self.now.sectors) all) in
    let back = sector_from_place c.args.self.now.sectors c.args.sector c.args.offset c.requires.sector c.requires.offset in
    record {
      place = sum;
      in_range = omega (arith, sum, place_bound c.args.self.now.sectors c.args.sector c.args.offset c.requires.sector c.requires.offset);
      sector = ap (sector_of c.args.self.now.sectors) sum ∙ back.0;
      offset = ap (offset_in c.args.self.now.sectors) sum ∙ back.1;
    }
