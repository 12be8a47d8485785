use Rattle.std.proofs.Common.{◌*◌, ◌∙◌, ap}
use Rattle.qn_value.proofs.PlainLemmas.{times_within}
use Rattle.qn_value.proofs.plain.scaled.Goals as goal

pub returns-in-Some-clause-within : goal.returns-in-Some-clause-within
returns-in-Some-clause-within c =
    times_within c.args.first c.args.second c.times.result c.args.size c.in-Some.magnitude c.times.ensures
    (c.in-Some.ensures.value ∙ ap (λ m. m * c.args.size) c.mag.ensures.value) c.requires.size
