use Rattle.qn_mpo.specs.Links.{AreEmpty, AreLinks}
use Rattle.qn_mpo.proofs.Frames.{NarrowBelow}
use Rattle.qn_mpo.proofs.frame.frame_of.Given as goal

abbrev pub invariant-loop-j : goal.invariant-loop-j
invariant-loop-j g l = record {
  links : AreLinks l.sum l.j l.links.items;
  tensors : AreEmpty l.sum l.j l.tensors.items;
  narrow : NarrowBelow l.sum l.j;
}
