use Rattle.std.proofs.Common.{rules, ◌≡◌, ◌+◌, ◌<◌, refl, arith}
use Rattle.qn_gauss.specs.Gaussian.{limit}
use Rattle.qn_value.specs.Numbering.{parity_in, summands}
use Rattle.qn_value.proofs.PlainLemmas.{magnitude_at, sum_first, too_large, sum_all, sum_bounded}
use Rattle.qn_value.proofs.plain.sum_of_summands.Goals as goal

pub loop-number-init : goal.loop-number-init
loop-number-init c = sum_first (parity_in c.args.parities.now) c.args.tensors.now c.args.bonds.now c.args.opens.now c.args.values.now c.zero-sum.result c.zero-sum.ensures

pub returns-in-None-clause-none : goal.returns-in-None-clause-none
returns-in-None-clause-none c =
    let large : limit < c.loop-number.size + magnitude_at c.args.tensors.now c.args.bonds.now c.args.opens.now c.args.values.now c.loop-number.number =
    omega (arith, c.in-None.ensures.none refl) in (
      (λ e.
          too_large (parity_in c.args.parities.now) c.args.tensors.now c.args.bonds.now c.args.opens.now c.args.values.now c.loop-number.number c.args.count c.loop-number.size c.loop-number.sum
          c.loop-number.invariant (search rules) c.requires.count large),
      (λ l. refl),
    )

pub returns-in-None-mag_add-clause-none : goal.returns-in-None-mag_add-clause-none
returns-in-None-mag_add-clause-none c =
    let large : limit < c.loop-number.size + magnitude_at c.args.tensors.now c.args.bonds.now c.args.opens.now c.args.values.now c.loop-number.number =
    omega (arith, c.in-None-mag_add.ensures.none.0 refl, c.in-Some.ensures.magnitude) in (
      (λ e.
          too_large (parity_in c.args.parities.now) c.args.tensors.now c.args.bonds.now c.args.opens.now c.args.values.now c.loop-number.number c.args.count c.loop-number.size c.loop-number.sum
          c.loop-number.invariant (search rules) c.requires.count large),
      (λ l. refl),
    )

pub returns-clause-value : goal.returns-clause-value
returns-clause-value c =
    let last : c.loop-number.number ≡ summands c.args.bonds.now = omega (arith, c.loop-number-test.false, c.loop-number.auto.number-end, c.requires.count) in
    sum_all (parity_in c.args.parities.now) c.args.tensors.now c.args.bonds.now c.args.opens.now c.args.values.now c.loop-number.number c.loop-number.sum c.loop-number.size
    c.loop-number.invariant last

pub returns-clause-none : goal.returns-clause-none
returns-clause-none c =
    let last : c.loop-number.number ≡ summands c.args.bonds.now = omega (arith, c.loop-number-test.false, c.loop-number.auto.number-end, c.requires.count) in (
      (λ e. absurd (cc e)),
      (λ l.
          absurd (omega (
            arith,
            l,
            sum_bounded (parity_in c.args.parities.now) c.args.tensors.now c.args.bonds.now c.args.opens.now c.args.values.now c.loop-number.number c.loop-number.sum c.loop-number.size
                c.loop-number.invariant last,
          ))),
    )
