use Rattle.std.proofs.Common.{lit<, subst}
use Rattle.qn_mps.specs.declared.chain.ChainKind.TheVariants.{State}
use Rattle.qn_mps.specs.declared.fault.ChainFault.TheVariants.{ChainShape, LinkClash}
use Rattle.qn_mps.specs.Refusals.{IsChainFault}
use Rattle.qn_gen.proofs.DrawnChains.{IsReady, ready}
use Rattle.qn_gen.proofs.state.drawn_state.Goals as goal

pub state-requires : goal.state-requires
state-requires c =
    let r : IsReady c.args.group.now c.args.sites.now c.in_ok-tensors.tensors.items = ready c.args.draws.now.x c.args.count c.args.group.now c.args.sites.now c.in_ok-tensors.tensors.items c.requires.group c.requires.sites c.in_ok-tensors.ensures.tensors c.requires.some c.requires.few in
    (lit< tt, (lit< tt, (lit< tt, (lit< tt, (r.some, (r.few, (r.out, (r.group, r.fluxes))))))))

pub unreachable-requires : goal.unreachable-requires
unreachable-requires c =
    let r : IsReady c.args.group.now c.args.sites.now c.in_ok-tensors.tensors.items = ready c.args.draws.now.x c.args.count c.args.group.now c.args.sites.now c.in_ok-tensors.tensors.items c.requires.group c.requires.sites c.in_ok-tensors.ensures.tensors c.requires.some c.requires.few in
    r.faultless (ChainShape c.in-Err-ChainShape.field-0-0) tt (subst (IsChainFault State c.args.sites.now c.in_ok-tensors.tensors.items) c.in-Err-ChainShape.field-0-is c.in-Err-ChainShape.ensures.err)

pub unreachable-requires-in-Err-LinkClash : goal.unreachable-requires-in-Err-LinkClash
unreachable-requires-in-Err-LinkClash c =
    let r : IsReady c.args.group.now c.args.sites.now c.in_ok-tensors.tensors.items = ready c.args.draws.now.x c.args.count c.args.group.now c.args.sites.now c.in_ok-tensors.tensors.items c.requires.group c.requires.sites c.in_ok-tensors.ensures.tensors c.requires.some c.requires.few in
    r.faultless (LinkClash c.in-Err-LinkClash.field-0-0) tt (subst (IsChainFault State c.args.sites.now c.in_ok-tensors.tensors.items) c.in-Err-LinkClash.field-0-is c.in-Err-LinkClash.ensures.err)
