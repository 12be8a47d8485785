use Rattle.std.proofs.Common.{sym, subst, List, take, get_or, arith}
use Rattle.qn_board.specs.Machine.{Runs, first}
use Rattle.qn_board.specs.declared.event.Event.{Event}
use Rattle.qn_board.specs.declared.event.Event.TheVariants.{Draw}
use Rattle.qn_board.proofs.Settles.{decided}
use Rattle.qn_board.proofs.Acting.{runs_more, take_next}
use Rattle.qn_board.proofs.machine.run_events.Goals as goal

pub returns-clause-finished : goal.returns-clause-finished
returns-clause-finished c = λ k s done passing at z. decided c.loop-i.machine k s done passing c.known.ensures at z

pub loop-i-preserved : goal.loop-i-preserved
loop-i-preserved c =
    subst (λ (es : List Event). Runs (first c.args.n c.args.weight) es c.step.new.self) (sym (take_next c.args.events.now c.loop-i.i (Draw 0) (omega arith)))
    (runs_more (first c.args.n c.args.weight) (take c.loop-i.i c.args.events.now) (get_or c.args.events.now c.loop-i.i (Draw 0)) c.in-Ok.field-0 c.loop-i.machine c.step.new.self c.loop-i.invariant c.in-Ok.ensures.ok)
