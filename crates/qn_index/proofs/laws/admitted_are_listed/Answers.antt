use Rattle.qn_index.proofs.Admitted.{listed, unlisted, admitted_ascend, block_within}
use Rattle.qn_index.proofs.laws.admitted_are_listed.Goals as goal

pub returns : goal.returns
returns c = record { exact = λ fs ls q t. (unlisted fs ls q t, listed fs ls q t); ascending = admitted_ascend; block = block_within }
