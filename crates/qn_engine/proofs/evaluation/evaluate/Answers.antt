use Rattle.qn_engine.proofs.Evaluating.{never_wide}
use Rattle.qn_engine.proofs.evaluation.evaluate.Goals as goal

pub returns-in-Ok-clause-still : goal.returns-in-Ok-clause-still
returns-in-Ok-clause-still g c = λ step e. absurd (never_wide _ step c.in-Ok.ensures.narrow e)
