use Rattle.std.proofs.Common.{length}
use Rattle.qn_value.proofs.plain.+push_word.Given as goal

abbrev pub decreases-push_word : goal.decreases-push_word
decreases-push_word l = length l.tensors.now
