use Rattle.std.proofs.Common.{◌≤◌, length}
use Rattle.qn_mps.specs.Labels.{labels_at}
use Rattle.qn_mps.proofs.Conjugates.{HasConjugatesFrom}
use Rattle.qn_mps.proofs.network.add_conjugates.Given as goal

abbrev pub invariant-loop-site : goal.invariant-loop-site
invariant-loop-site g l = record {
  within : l.site ≤ length l.chain.tensors;
  made : HasConjugatesFrom (labels_at l.own l.link (length l.chain.tensors)) l.site l.chain.tensors l.initial.members.items l.members.items;
}
