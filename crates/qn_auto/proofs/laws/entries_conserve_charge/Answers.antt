use Rattle.qn_charge.specs.Charges.{IsCanonical, zero_charge, sum_charge, neg_charge}
use Rattle.qn_auto.proofs.FluxLaws.{flux_law, left_lies, normal_flux, charges_form_group}
use Rattle.qn_auto.proofs.laws.entries_conserve_charge.Goals as goal

pub returns-clause-entries : goal.returns-clause-entries
returns-clause-entries c fs group value op S charges flux proper ws h earlier j l r left x y at =
    flux_law (IsCanonical fs) (zero_charge fs) (sum_charge fs) (neg_charge fs) (charges_form_group fs group) value op S charges flux proper j r x y at ws h l (left_lies earlier ws j l left)

pub returns-clause-sorted : goal.returns-clause-sorted
returns-clause-sorted c fs group op S flux ws h = normal_flux (IsCanonical fs) (zero_charge fs) (sum_charge fs) (neg_charge fs) (charges_form_group fs group) op S flux ws h
