use Rattle.std.proofs.Common.{rules, arith, ◌∙◌, w64}
use Rattle.std.proofs.lemmas.Int.{to_z-of_z}
use Rattle.qn_charge.proofs.Parts.{parity_step}
use Rattle.qn_charge.proofs.group.GroupAbelian.parity.Goals as goal

pub loop-i-preserved : goal.loop-i-preserved
loop-i-preserved g c =
    parity_step c.args.self.now c.args.a.now c.loop-i.i _ c.factor.result _ c.loop-i.odd c.is_part_odd-odd.result (omega arith) c.loop-i.invariant c.factor.ensures (to_z-of_z w64 c.part.result (search rules) ∙ c.part.ensures) c.is_part_odd-odd.ensures
