use Rattle.std.proofs.Common.{refl, subst}
use Rattle.std.specs.List.{All}
use Rattle.std.proofs.lemmas.List.{take_all}
use Rattle.std.proofs.lemmas.List.Elements.{All-more}
use Rattle.qn_match.specs.Pairs.{MeetAt}
use Rattle.qn_match.proofs.pairing.all_meet.Goals as goal

pub loop-pair-preserved : goal.loop-pair-preserved
loop-pair-preserved g c =
    All-more (MeetAt c.args.firsts.now c.args.seconds.now) c.args.shared.now c.loop-pair.pair-index (0, 0) c.loop-pair-test.true c.loop-pair.invariant (c.meet_at.ensures.0 c.if-not-meet_at.false)

pub returns : goal.returns
returns g c = (λ e. subst (λ ps. All (MeetAt c.args.firsts.now c.args.seconds.now) ps) (take_all c.loop-pair.pair-index c.args.shared.now c.loop-pair-test.false) c.loop-pair.invariant, λ h. refl)
