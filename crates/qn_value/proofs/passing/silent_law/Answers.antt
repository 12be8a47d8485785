use Rattle.qn_value.proofs.MagnitudeLemmas.{silent}
use Rattle.qn_value.proofs.passing.silent_law.Goals as goal

pub returns : goal.returns
returns c fs charge ns qs bonds opens a group h net off = silent fs group charge ns qs bonds opens a h net off
