use Rattle.qn_braket.proofs.Overlap
use Rattle.qn_braket.proofs.brakets.overlap_law.Goals as goal

pub returns : goal.returns
returns c = Overlap.overlap_law
