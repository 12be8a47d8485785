use Rattle.std.proofs.Common.{arith, ap, ◌∙◌}
use Rattle.qn_index.specs.Legs.{SectorValue}
use Rattle.qn_index.proofs.Sectors.{read_is, before_all}
use Rattle.qn_index.proofs.leg.total_of.Goals as goal

pub overflow_add-sum : goal.overflow_add-sum
overflow_add-sum g c =
    let r = read_is c.args.sectors.now c.loop-s.s-index c.s-item.result c.s.inside.dim (omega arith) c.s-item.is (ap (λ (p : SectorValue). p.dim) c.s.view_is) in
    grind (arith, r.bound, c.requires)

pub loop-s-preserved : goal.loop-s-preserved
loop-s-preserved g c =
    let r = read_is c.args.sectors.now c.loop-s.s-index c.s-item.result c.s.inside.dim (omega arith) c.s-item.is (ap (λ (p : SectorValue). p.dim) c.s.view_is) in
    omega (arith, r.next)

pub returns : goal.returns
returns g c = c.loop-s.invariant ∙ before_all c.args.sectors.now c.loop-s.s-index (omega arith)
