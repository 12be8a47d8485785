use Rattle.std.proofs.Common.{sym, subst}
use Rattle.std.specs.List.{All}
use Rattle.std.proofs.lemmas.List.Elements.{All-push}
use Rattle.qn_index.specs.Legs.{IsLegOf}
use Rattle.qn_samples.proofs.legs.legs_of.Goals as goal

pub loop-row-preserved : goal.loop-row-preserved
loop-row-preserved g c =
    subst (All (IsLegOf c.args.group.now)) (sym c.in_ok-push.ensures.items)
    (All-push (IsLegOf c.args.group.now) c.loop-row.legs.items _ c.loop-row.invariant c.in_ok-leg_of.ensures)
