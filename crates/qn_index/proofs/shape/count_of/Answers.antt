use Rattle.std.proofs.Common.{arith, ◌∙◌, ◌-◌, ◌^◌, ap, length}
use Rattle.qn_index.specs.Legs.{LegValue}
use Rattle.qn_index.proofs.Counts.{count_capped}
use Rattle.qn_index.proofs.shape.count_of.Goals as goal

pub times-size-requires-clause-size : goal.times-size-requires-clause-size
times-size-requires-clause-size g c = omega (arith, c.loop-i.invariant)

pub times-size-requires-clause-few : goal.times-size-requires-clause-few
times-size-requires-clause-few g c =
    let sound = c.known_all.ensures (c.loop-i.i - 1) c.index-legs-i.result (omega arith) in
    omega (arith, sound.few, ap (λ (l : LegValue). length l.sectors) c.index-legs-i.is, ap length c.sectors.ensures)

pub loop-i-preserved : goal.loop-i-preserved
loop-i-preserved g c =
    c.times-size.ensures ∙ count_capped (2 ^ 20) c.args.legs.now c.loop-i.i c.index-legs-i.result c.loop-i.size (length c.sectors.result.now) (omega arith) (omega arith) c.index-legs-i.is (ap length c.sectors.ensures) c.loop-i.invariant
