use Rattle.std.proofs.Common.{lit<}
use Rattle.qn_block.proofs.Occurring.{neg_is_flux, neg_fits}
use Rattle.qn_block.proofs.charges.turned_charge.Goals as goal

pub neg-requires : goal.neg-requires
neg-requires g c = (lit< tt, (lit< tt, (c.requires.canonical, neg_fits c.args.group.now c.args.charge.now c.requires)))

pub returns-in-In-clause-flux : goal.returns-in-In-clause-flux
returns-in-In-clause-flux g c = neg_is_flux c.args.group.now c.args.charge.now c.neg.result c.requires c.neg.ensures.value c.neg.ensures.canonical
