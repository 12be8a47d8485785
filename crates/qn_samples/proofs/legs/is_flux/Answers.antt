use Rattle.std.proofs.Common.{◌^◌}
use Rattle.qn_charge.specs.Laws.{in_range, length_canonical}
use Rattle.qn_samples.proofs.legs.is_flux.Goals as goal

pub returns-in-None : goal.returns-in-None
returns-in-None g c =
    λ e. record { canonical = c.requires; within = (in_range (2 ^ 50) c.args.group.now c.args.charge.now (length_canonical c.args.group.now c.args.charge.now c.requires) c.in-None.ensures).1 }
