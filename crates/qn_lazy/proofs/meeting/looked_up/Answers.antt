use Rattle.qn_lazy.proofs.Keyed.{filter_more}
use Rattle.qn_lazy.proofs.meeting.looked_up.Goals as goal

pub loop-tuple-preserved : goal.loop-tuple-preserved
loop-tuple-preserved c =
    filter_more _ _ _ c.args.tuples.now c.loop-tuple.tuple-index c.tuple-item.result c.loop-tuple-test.true c.tuple-item.is c.loop-tuple.invariant c.in_ok-append_met.ensures
