use Rattle.std.proofs.Common.{take}
use Rattle.std.specs.List.{All}
use Rattle.qn_match.specs.Pairs.{MeetAt}
use Rattle.qn_match.proofs.pairing.all_meet.Given as goal

abbrev pub invariant-loop-pair : goal.invariant-loop-pair
invariant-loop-pair g l = All (MeetAt l.firsts l.seconds) (take l.pair-index l.shared)
