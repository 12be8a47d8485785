use Rattle.std.proofs.Common.{◌≡◌, ◌++◌, length, drop}
use Rattle.qn_braket.specs.Chains.{with_labels}
use Rattle.qn_mps.specs.Labels.{labels_at}
use Rattle.qn_mps.proofs.network.add_tensors.Given as goal

abbrev pub invariant-loop-site : goal.invariant-loop-site
invariant-loop-site g l =
    l.members.items ++ with_labels (labels_at l.own l.link (length l.chain.tensors)) l.site (drop l.site l.chain.tensors)
    ≡ l.initial.members.items ++ with_labels (labels_at l.own l.link (length l.chain.tensors)) 0 l.chain.tensors
