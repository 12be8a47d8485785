use Rattle.std.proofs.Common.{◌^◌, refl}
use Rattle.std.proofs.lemmas.Bool.{false≢true}
use Rattle.qn_charge.specs.Laws.{in_range, none_out_of_range, length_canonical}
use Rattle.qn_match.proofs.pairing.is_flux.Goals as goal

pub returns-in-None : goal.returns-in-None
returns-in-None g c =
    (λ e. record { canonical = c.requires; within = (in_range (2 ^ 50) c.args.group.now c.args.charge.now (length_canonical c.args.group.now c.args.charge.now c.requires) c.in-None.ensures).1 }, λ h. refl)

pub returns-in-Some : goal.returns-in-Some
returns-in-Some g c = (λ e. absurd (false≢true e), λ h. absurd (none_out_of_range (2 ^ 50) c.args.group.now c.args.charge.now h.canonical h.within c.in-Some.field-0 c.in-Some.ensures.here))
