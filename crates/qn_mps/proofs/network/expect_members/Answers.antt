use Rattle.qn_mps.proofs.Brakets.{expect_made}
use Rattle.qn_mps.proofs.network.expect_members.Goals as goal

pub returns : goal.returns
returns g c =
    expect_made c.args.bra.now.tensors c.args.op.now.tensors c.args.ket.now.tensors c.new-members.result.items c.add_conjugates.new.members.items c.add_tensors.new.members.items c.add_tensors-2.new.members.items
    c.new-members.ensures.items c.in_ok-add_conjugates.ensures c.in_ok-add_tensors.ensures c.in_ok-add_tensors-2.ensures
