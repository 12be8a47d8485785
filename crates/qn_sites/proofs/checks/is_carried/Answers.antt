use Rattle.std.proofs.Common.{lit<, ◌^◌}
use Rattle.qn_charge.specs.Charges.{IsWithin, sum_charge}
use Rattle.qn_sites.proofs.Fits.{neg_fits, difference_fits}
use Rattle.qn_sites.proofs.checks.is_carried.Goals as goal

pub neg-down-requires : goal.neg-down-requires
neg-down-requires g c = (lit< tt, (lit< tt, (c.charge_of.ensures.canonical, neg_fits c.args.group.now c.charge_of.result.now c.charge_of.ensures.within)))

pub add-requires : goal.add-requires
add-requires g c = (
  lit< tt,
  (
    lit< tt,
    (
      c.charge_of-up.ensures.canonical,
      (
        c.neg-down.ensures.canonical,
        rw c.neg-down.ensures.value (difference_fits c.args.group.now c.charge_of-up.result.now c.charge_of.result.now c.charge_of-up.ensures.within c.charge_of.ensures.within),
      ),
    ),
  ),
)
