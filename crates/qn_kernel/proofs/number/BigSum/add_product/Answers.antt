use Rattle.std.proofs.Common.{arith, rules, ◌+◌, ◌+ℤ◌, unsigned_abs, ◌≤◌, ◌*◌}
use Rattle.std.proofs.lemmas.Int.{to_z-of_z}
use Rattle.qn_gauss.specs.Gaussian.{limit, add_g, mul_g, mag}
use Rattle.qn_gauss.proofs.Ring.{gauss_path}
use Rattle.qn_gauss.proofs.Size.{mag-mul, re-parts, im-parts}
use Rattle.qn_kernel.proofs.Parts.{parts_fit}
use Rattle.qn_kernel.proofs.number.BigSum.add_product.Goals as goal

pub big_difference-re-requires : goal.big_difference-re-requires
big_difference-re-requires g c =
    let h : mag (g.A.Number.value c.args.first) * mag (g.B.Number.value c.args.second) ≤ limit = omega (arith, c.requires) in
    grind (arith, to_z-of_z, re-parts (g.A.Number.value c.args.first) (g.B.Number.value c.args.second) limit h)

pub big_sum-im-requires : goal.big_sum-im-requires
big_sum-im-requires g c =
    let h : mag (g.A.Number.value c.args.first) * mag (g.B.Number.value c.args.second) ≤ limit = omega (arith, c.requires) in
    search (rules, to_z-of_z, im-parts (g.A.Number.value c.args.first) (g.B.Number.value c.args.second) limit h)

pub big_sum-requires : goal.big_sum-requires
unfolding mul_g
big_sum-requires g c = grind (arith, to_z-of_z, mag-mul (g.A.Number.value c.args.first) (g.B.Number.value c.args.second))

pub big_sum-requires-2 : goal.big_sum-requires-2
unfolding mul_g
big_sum-requires-2 g c = grind (arith, to_z-of_z, mag-mul (g.A.Number.value c.args.first) (g.B.Number.value c.args.second))

pub invariant_of-result : goal.invariant_of-result
unfolding mul_g
invariant_of-result g c =
    let small : unsigned_abs c.big_difference-re.result + unsigned_abs c.big_sum-im.result ≤ mag (g.A.Number.value c.args.first) * mag (g.B.Number.value c.args.second) = grind (arith, to_z-of_z, mag-mul (g.A.Number.value c.args.first) (g.B.Number.value c.args.second)) in
    let all : unsigned_abs (c.args.self.re +ℤ c.big_difference-re.result) + unsigned_abs (c.args.self.im +ℤ c.big_sum-im.result) ≤ limit = parts_fit c.args.self.re c.args.self.im c.big_difference-re.result c.big_sum-im.result (mag (g.A.Number.value c.args.first) * mag (g.B.Number.value c.args.second)) limit (omega (arith, c.requires)) small in
    record { fits = grind (arith, to_z-of_z, all) }

pub returns-clause-value : goal.returns-clause-value
unfolding add_g mul_g
returns-clause-value g c = gauss_path _ _ (grind (arith, to_z-of_z)) (grind (arith, to_z-of_z))
