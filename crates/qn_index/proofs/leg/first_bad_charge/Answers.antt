use Rattle.std.proofs.Common.{arith, ap, sym, subst, ◌∙◌, below_more, List, ℤ}
use Rattle.qn_charge.specs.Firsts.{OutOfRange}
use Rattle.qn_index.specs.Legs.{SectorValue}
use Rattle.qn_index.proofs.Sectors.{charge_read, of_more}
use Rattle.qn_index.proofs.leg.first_bad_charge.Goals as goal

pub loop-i-preserved : goal.loop-i-preserved
loop-i-preserved g c =
    let q = ap (λ (p : SectorValue). p.charge) c.s.view_is in
    let e = charge_read c.args.sectors.now c.loop-i.i c.index-sectors-i.result c.s.inside.charge (omega arith) c.index-sectors-i.is q in
    record {
      none = below_more _ _ c.loop-i.invariant.none (λ b. c.in-None.ensures b.1.0 (subst (λ (x : List ℤ). OutOfRange 1000000000 c.args.group.now x b.1.0) e b.1.1));
      of = of_more c.args.group.now c.args.sectors.now c.loop-i.i c.index-sectors-i.result c.s.inside.charge (omega arith) c.index-sectors-i.is q (c.known-in-loop-i.ensures.count ∙ sym c.known.ensures.count) c.in-None.ensures c.loop-i.invariant.of;
    }

pub returns-clause-first : goal.returns-clause-first
returns-clause-first g c = λ j b. c.loop-i.invariant.none j (omega (arith, b.0)) b

pub returns-clause-group : goal.returns-clause-group
returns-clause-group g c = λ k d lt. c.loop-i.invariant.of k d (omega arith)

pub returns-in-Some-clause-first : goal.returns-in-Some-clause-first
returns-in-Some-clause-first g c =
    let e = charge_read c.args.sectors.now c.loop-i.i c.index-sectors-i.result c.s.inside.charge (omega arith) c.index-sectors-i.is (ap (λ (p : SectorValue). p.charge) c.s.view_is) in
    record {
      here = (omega arith, (c.in-Some.field-0, subst (λ (x : List ℤ). OutOfRange 1000000000 c.args.group.now x c.in-Some.field-0) (sym e) c.in-Some.ensures.here));
      before = c.loop-i.invariant.none;
    }
