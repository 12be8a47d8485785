use Rattle.std.proofs.Common.{arith, refl, ap, ◌∙◌, lit<}
use Rattle.qn_charge.specs.Charges.{xor}
use Rattle.qn_block.proofs.OddValues.{odd_back}
use Rattle.qn_engine.proofs.fusing.odd_inward.Goals as goal

pub bounds-values-i : goal.bounds-values-i
bounds-values-i g c =
    (odd_back c.args.group.now c.args.legs.now c.args.values.now c.loop-i.i c.index-legs-i.result _ c.loop-i.odd c.requires (omega arith) (omega arith) c.index-legs-i.is refl c.loop-i.invariant).there

pub is_odd_inward-requires : goal.is_odd_inward-requires
is_odd_inward-requires g c =
    (lit< tt, (lit< tt, (odd_back c.args.group.now c.args.legs.now c.args.values.now c.loop-i.i c.index-legs-i.result _ c.loop-i.odd c.requires (omega arith) (omega arith) c.index-legs-i.is refl c.loop-i.invariant).below))

pub loop-i-preserved : goal.loop-i-preserved
loop-i-preserved g c =
    c.differ-odd.ensures
    ∙ (ap (λ b. xor b c.loop-i.odd) c.is_odd_inward.ensures
    ∙ (odd_back c.args.group.now c.args.legs.now c.args.values.now c.loop-i.i c.index-legs-i.result _ c.loop-i.odd c.requires (omega arith) (omega arith) c.index-legs-i.is refl c.loop-i.invariant).next)
