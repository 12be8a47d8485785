use Rattle.std.proofs.Common.{sym, subst, arith}
use Rattle.qn_sites.specs.Sites.{GivenOp}
use Rattle.qn_parts.specs.Faults.{Fails}
use Rattle.qn_sumdoc.proofs.OffCharge.{charge_right, charge_wrong, head_test}
use Rattle.qn_sumdoc.proofs.operators.check_charge.Goals as goal

pub returns-in-Some : goal.returns-in-Some
returns-in-Some g c =
    let op : GivenOp = record { name = c.args.name.now; charge = c.args.charge.now; entries = c.args.entries.now } in
    let head = head_test c.args.group.now op (omega (arith, c.known.ensures.count, c.known-2.ensures.count)) in
    subst (Fails c.at_entry.result) (sym (charge_wrong c.args.group.now c.args.leg.now c.args.site c.args.op op c.in-Some.entry head c.in-Some.ensures)) c.at_entry.ensures

pub returns-in-None : goal.returns-in-None
returns-in-None g c =
    let op : GivenOp = record { name = c.args.name.now; charge = c.args.charge.now; entries = c.args.entries.now } in
    let head = head_test c.args.group.now op (omega (arith, c.known.ensures.count, c.known-2.ensures.count)) in
    (charge_right c.args.group.now c.args.leg.now c.args.site c.args.op op head c.in-None.ensures, c.in-None.ensures)
