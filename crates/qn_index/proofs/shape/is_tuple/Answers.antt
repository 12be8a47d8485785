use Rattle.std.proofs.Common.{arith, ◌≡◌, ◌<◌, ap, length, get_or, refl}
use Rattle.qn_index.specs.Legs.{LegValue}
use Rattle.qn_index.proofs.Nets.{tuple_length, tuple_at, tuple_from, tuple_more}
use Rattle.qn_index.proofs.shape.is_tuple.Goals as goal

pub loop-i-preserved : goal.loop-i-preserved
loop-i-preserved g c =
    let here : get_or c.args.tuple.now c.loop-i.i 0 < length c.index-legs-i.result.sectors = omega (arith, c.if-tuple-i.false, ap length c.sectors.ensures) in
    tuple_more c.args.legs.now c.args.tuple.now c.loop-i.i c.index-legs-i.result c.loop-i-test.true c.index-legs-i.is here c.loop-i.invariant

pub returns-then-tuple-legs : goal.returns-then-tuple-legs
returns-then-tuple-legs g c = (λ t. absurd (cc t), λ h. absurd (c.if-tuple-legs.true (tuple_length c.args.legs.now c.args.tuple.now h)))

pub returns-then-tuple-i : goal.returns-then-tuple-i
returns-then-tuple-i g c = (
  λ t. absurd (cc t),
  λ h. absurd (omega (arith, tuple_at c.args.legs.now c.args.tuple.now c.loop-i.i c.index-legs-i.result h c.loop-i-test.true, ap (λ (l : LegValue). length l.sectors) c.index-legs-i.is, ap length c.sectors.ensures, c.if-tuple-i.true)),
)

pub returns : goal.returns
returns g c =
    let n : length c.args.tuple.now ≡ length c.args.legs.now = omega (arith, c.if-tuple-legs.false) in
    (λ t. tuple_from c.args.legs.now c.args.tuple.now n (λ k d lt. c.loop-i.invariant k d (omega arith)), λ h. refl)
