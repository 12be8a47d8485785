use Rattle.std.proofs.Common.{arith}
use Rattle.qn_permute.proofs.Lines.{appended_more}
use Rattle.qn_permute.proofs.axis.+append_entries.Goals as goal

pub loop-i-preserved : goal.loop-i-preserved
loop-i-preserved t c = appended_more _ _ _ _ _ _ _ (omega arith) c.in_ok-append_entries-in-len1-up.ensures c.loop-i.invariant
