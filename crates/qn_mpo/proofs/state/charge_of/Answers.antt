use Rattle.std.proofs.Common.{arith, lit<, ◌∙◌, ap}
use Rattle.qn_charge.specs.Charges.{sum_charge, zero_charge}
use Rattle.qn_mpo.proofs.Charges.{add_fits, added_all, added_first, added_more, factor_known}
use Rattle.qn_mpo.proofs.state.charge_of.Goals as goal

pub loop-i-init : goal.loop-i-init
loop-i-init g c = added_first c.args.sum.now c.args.factors.now c.zero-total.result c.known.ensures.sites c.requires (c.zero-total.ensures.value ∙ ap zero_charge c.group-group.ensures)

pub op_of-op-requires : goal.op_of-op-requires
op_of-op-requires g c = (lit< tt, (lit< tt, factor_known c.args.sum.now c.args.factors.now c.loop-i.i c.index-factors-i.result c.requires (omega arith) c.index-factors-i.is))

pub add-total-requires : goal.add-total-requires
add-total-requires g c =
    let fits = add_fits c.args.sum.now c.known.ensures.sites c.group-group.result.now c.group-group.ensures c.args.factors.now c.loop-i.i c.index-factors-i.result c.charge.result.now c.loop-i.total c.requires (omega arith) c.index-factors-i.is
    (c.charge.ensures ∙ c.op_of-op.ensures) c.loop-i.invariant in
    (lit< tt, (lit< tt, fits))

pub loop-i-preserved : goal.loop-i-preserved
loop-i-preserved g c =
    added_more c.args.sum.now c.known.ensures.sites c.args.factors.now c.loop-i.i c.index-factors-i.result c.charge.result.now c.loop-i.total c.add-total.result c.requires (omega arith) c.index-factors-i.is
    (c.charge.ensures ∙ c.op_of-op.ensures) c.loop-i.invariant (c.add-total.ensures.value ∙ ap (λ gs. sum_charge gs c.loop-i.total c.charge.result.now) c.group-group.ensures)

pub returns : goal.returns
returns g c = added_all c.args.sum.now c.args.factors.now c.loop-i.i c.loop-i.total (omega arith) c.loop-i.invariant
