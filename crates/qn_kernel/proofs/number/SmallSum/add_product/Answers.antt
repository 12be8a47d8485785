use Rattle.std.proofs.Common.{arith, rules, ◌+◌, ◌+ℤ◌, unsigned_abs, ◌≤◌, ◌*◌, ◌^◌, ◌-◌}
use Rattle.std.proofs.lemmas.Int.{to_z-of_z}
use Rattle.qn_kernel.specs.Numbers.{small_value}
use Rattle.qn_gauss.specs.Gaussian.{add_g, mul_g, mag}
use Rattle.qn_gauss.proofs.Ring.{gauss_path}
use Rattle.qn_gauss.proofs.Size.{mag-mul, re-parts, im-parts}
use Rattle.qn_kernel.proofs.Parts.{parts_fit}
use Rattle.qn_kernel.proofs.number.SmallSum.add_product.Goals as goal

pub small_difference-re-requires : goal.small_difference-re-requires
small_difference-re-requires g c =
    let h : mag (small_value c.args.first) * mag (small_value c.args.second) ≤ 2 ^ 63 - 1 = omega (arith, c.requires) in
    grind (arith, to_z-of_z, re-parts (small_value c.args.first) (small_value c.args.second) (2 ^ 63 - 1) h)

pub small_sum-im-requires : goal.small_sum-im-requires
small_sum-im-requires g c =
    let h : mag (small_value c.args.first) * mag (small_value c.args.second) ≤ 2 ^ 63 - 1 = omega (arith, c.requires) in
    search (rules, to_z-of_z, im-parts (small_value c.args.first) (small_value c.args.second) (2 ^ 63 - 1) h)

pub small_sum-requires : goal.small_sum-requires
unfolding mul_g
small_sum-requires g c = grind (arith, to_z-of_z, mag-mul (small_value c.args.first) (small_value c.args.second))

pub small_sum-requires-2 : goal.small_sum-requires-2
unfolding mul_g
small_sum-requires-2 g c = grind (arith, to_z-of_z, mag-mul (small_value c.args.first) (small_value c.args.second))

pub invariant_of-result : goal.invariant_of-result
unfolding mul_g
invariant_of-result g c =
    let small : unsigned_abs c.small_difference-re.result + unsigned_abs c.small_sum-im.result ≤ mag (small_value c.args.first) * mag (small_value c.args.second) = grind (arith, to_z-of_z, mag-mul (small_value c.args.first) (small_value c.args.second)) in
    let all : unsigned_abs (c.args.self.re +ℤ c.small_difference-re.result) + unsigned_abs (c.args.self.im +ℤ c.small_sum-im.result) ≤ (2 ^ 63 - 1) = parts_fit c.args.self.re c.args.self.im c.small_difference-re.result c.small_sum-im.result (mag (small_value c.args.first) * mag (small_value c.args.second)) (2 ^ 63 - 1) (omega (arith, c.requires)) small in
    record { re_fits = grind (arith, to_z-of_z, all); im_fits = grind (arith, to_z-of_z, all) }

pub returns-clause-value : goal.returns-clause-value
unfolding add_g mul_g
returns-clause-value g c = gauss_path _ _ (grind (arith, to_z-of_z)) (grind (arith, to_z-of_z))
