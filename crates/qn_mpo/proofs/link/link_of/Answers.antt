use Rattle.std.proofs.Common.{arith, lit<, ◌∙◌, List, ap, ap₂}
use Rattle.qn_index.specs.declared.leg.Dir.TheVariants.{In}
use Rattle.qn_index.specs.Legs.{LegValue, SectorValue}
use Rattle.qn_mpo.specs.States.{StateValue}
use Rattle.qn_mpo.specs.Links.{LinkValue}
use Rattle.qn_mpo.proofs.Links.{few_made, leg_fault, sectors_are}
use Rattle.qn_mpo.proofs.link.link_of.Goals as goal

pub sectors_of-requires : goal.sectors_of-requires
sectors_of-requires g c =
    (lit< tt, (lit< tt, few_made c.args.sum.now c.known.ensures c.args.j c.deref.result.now (c.deref.ensures.value ∙ c.in_ok-states.ensures)))

pub returns-in-Ok-clause-ok : goal.returns-in-Ok-clause-ok
returns-in-Ok-clause-ok g c =
    let sectors = sectors_are c.args.sum.now c.args.j c.deref.result.now c.in_ok-sectors.sectors.items (c.deref.ensures.value ∙ c.in_ok-states.ensures) c.in_ok-sectors.ensures in
    let leg_of : List SectorValue → LegValue = λ ps. record { arrow = In; sectors = ps } in
    let made : List StateValue → LegValue → LinkValue = λ ss l. record { states = ss; leg = l } in
    ap₂ made c.in_ok-states.ensures (c.in-Ok.ensures.ok ∙ ap leg_of sectors)

pub returns-in-Err-clause-err : goal.returns-in-Err-clause-err
returns-in-Err-clause-err g c =
    let sectors = sectors_are c.args.sum.now c.args.j c.deref.result.now c.in_ok-sectors.sectors.items (c.deref.ensures.value ∙ c.in_ok-states.ensures) c.in_ok-sectors.ensures in
    (omega arith, leg_fault c.args.sum.now c.known.ensures c.args.j c.group.result.now c.in_ok-sectors.sectors.items c.in-Err.field-0 c.group.ensures sectors c.in-Err.ensures.err)
