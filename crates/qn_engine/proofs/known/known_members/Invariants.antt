use Rattle.qn_engine.specs.Carrying.{AreKnown}
use Rattle.qn_engine.proofs.known.known_members.Given as goal

abbrev pub invariant-loop-m : goal.invariant-loop-m
invariant-loop-m g l = AreKnown l.members l.m-index
