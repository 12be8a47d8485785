use Rattle.std.proofs.Common.{subst, refl}
use Rattle.qn_block.specs.Combiners.{CombinerValue, IsCombiner}
use Rattle.qn_block.specs.FuseFaults.{IsFuseFault}
use Rattle.qn_block.specs.declared.fault.FuseFault.TheVariants.{FusedRange}
use Rattle.qn_doc.proofs.Limits.{kept, broken}
use Rattle.qn_doc.proofs.combiners.fused.Goals as goal

pub returns-in-Ok : goal.returns-in-Ok
returns-in-Ok g c =
    let made : CombinerValue = record { group = c.args.group.now; legs = c.args.legs.items; arrow = c.args.dir } in
    let is = subst IsCombiner c.in-Ok.ensures.ok c.known.ensures in
    (rw (kept made is.fusable) refl, c.in-Ok.ensures.ok)

pub returns-in-Err-FusedRange : goal.returns-in-Err-FusedRange
returns-in-Err-FusedRange g c =
    let made : CombinerValue = record { group = c.args.group.now; legs = c.args.legs.items; arrow = c.args.dir } in
    let wrong : IsFuseFault c.args.group.now c.args.legs.items c.args.dir FusedRange = subst (IsFuseFault c.args.group.now c.args.legs.items c.args.dir) c.in-Err-FusedRange.field-0-is c.in-Err-FusedRange.ensures.err in
    rw (broken made wrong.1, c.at.ensures) refl
