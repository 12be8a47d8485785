use Rattle.std.proofs.Common.{arith, rules}
use Rattle.std.proofs.lemmas.Int.{to_z-of_z}
use Rattle.qn_gauss.specs.Gaussian.{limit, mul_g}
use Rattle.qn_gauss.proofs.Size.{mag-mul, re-parts, im-parts}
use Rattle.qn_gauss.proofs.gauss.Gauss.mul.Goals as goal

pub difference-re-requires : goal.difference-re-requires
difference-re-requires g c = grind (arith, to_z-of_z, re-parts c.args.self c.args.other limit c.requires)

pub sum-im-requires : goal.sum-im-requires
sum-im-requires g c = search (rules, to_z-of_z, im-parts c.args.self c.args.other limit c.requires)

pub invariant_of-result : goal.invariant_of-result
unfolding mul_g
invariant_of-result g c = grind (arith, to_z-of_z, mag-mul c.args.self c.args.other)

pub returns-clause-size : goal.returns-clause-size
unfolding mul_g
returns-clause-size g c = grind (arith, to_z-of_z, mag-mul c.args.self c.args.other)
