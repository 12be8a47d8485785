use Rattle.std.proofs.Common.{take}
use Rattle.qn_lazy.specs.Keys.{AreKeys}
use Rattle.qn_lazy.proofs.meeting.keys_of.Given as goal

abbrev pub invariant-loop-block : goal.invariant-loop-block
invariant-loop-block l = AreKeys l.shared (take l.block-index l.blocks) l.keys
